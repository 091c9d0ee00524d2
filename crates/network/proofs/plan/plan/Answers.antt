use Rattle.std.proofs.Common.{◌≡◌, ◌+◌, List, [], ◌∷◌, ◌++◌, length, get_or, take, vec_items, sym, ap, ◌∙◌, subst, arith, length-append}
use Rattle.std.proofs.lemmas.List.{get_or-take, length-take}
use Rattle.syntax.specs.declared.program.Shape.TheVariants.{Variable}
use Rattle.syntax.specs.declared.program.Subterm.{Subterm}
use Rattle.network.specs.declared.part.Part.{Part}
use Rattle.network.specs.Plan.{count_of, Planned}
use Rattle.network.proofs.Counting.{planned_more}
use Rattle.network.proofs.plan.plan.Goals as goal

-- the default that a read of a sub-term has
abbrev blank : Subterm
blank = record { place = 0; shape = Variable 0 }

length_push : (p q : List Part) (x : Part) → q ≡ p ++ (x ∷ []) → length q ≡ length p + 1
length_push p q x e = ap length e ∙ omega (arith, length-append p (x ∷ []))

pub loop-subterm-preserved : goal.loop-subterm-preserved
loop-subterm-preserved c =
    let n = c.loop-subterm.invariant.counted in
    let i = c.loop-subterm.subterm-index in
    let s = get_or (take c.args.count c.args.subs.now) i blank in
    let p = vec_items c.loop-subterm.parts in
    let r = get_or-take c.args.count c.args.subs.now i blank (omega (arith, length-take {A = Subterm})) in
    let m = planned_more c.args.subs.now p c.loop-subterm.invariant.planned s blank (rw n r) in
    let k = c.count_of-count.ensures ∙ ap (λ q. count_of q s.shape) c.deref.ensures.value in
    let e = c.push_reserved.ensures.items ∙ ap (λ q. p ++ (record { shape = s.shape; count = q } ∷ [])) k in
    record {
      planned = subst (Planned c.args.subs.now) (sym e) m;
      counted = length_push p _ _ c.push_reserved.ensures.items ∙ omega (arith, n);
      room = c.push_reserved.ensures.capacity ∙ c.loop-subterm.invariant.room;
    }
