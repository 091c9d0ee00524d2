use Rattle.std.proofs.Common.{◌≡◌, suc, ◌+◌, ◌<◌, Some, length, get_or, drop, set, sym, ap, ◌∙◌, subst, arith, length-set}
use Rattle.std.specs.Option.{unwrap_or}
use Rattle.std.proofs.lemmas.List.{drop_more}
use Rattle.cells.specs.Ports.{absent}
use Rattle.geometry.specs.Network.{l1, l2, crossings, entered}
use Rattle.geometry.specs.Memory.{wired_cells}
use Rattle.network.specs.Wiring.{starting, Crossable}
use Rattle.network.proofs.Crossed.{crossable_rest, wired_rest, entered_rest, joined_at}
use Rattle.network.proofs.wire.cross.Goals as goal

pub loop-i-preserved : goal.loop-i-preserved
loop-i-preserved c =
    let us = c.args.uses.now in
    let i = c.loop-i.i in
    let j = c.args.first + i in
    let s = c.loop-i.starts in
    let cs = c.loop-i.cells in
    let l : i < length us = omega arith in
    let x = get_or us i 0 in
    let d = drop_more us i 0 l in
    let h = subst (λ q. Crossable q j s (length cs)) d c.loop-i.invariant.rest in
    let e : c.args.first + (i + 1) ≡ suc j = omega arith in
    let p : c.at.result ≡ l2 j = omega (arith, c.at.ensures, h.room, h.numbered.ports) in
    let q : c.at-in-loop-i.result ≡ l1 j = omega (arith, c.at-in-loop-i.ensures, h.room, h.numbered.ports) in
    let o = ap (λ v. unwrap_or v absent) (sym c.unwrap.ensures ∙ c.replace-outside.ensures.value) in
    let f = ap (set s x) (c.replace-outside.ensures.after ∙ ap Some p) in
    let g = joined_at cs c.join.new.cells _ _ (starting s x) (l1 j) c.join.ensures o q in
    let rest = drop (i + 1) us in
    record {
      rest = crossable_rest x rest j s (length cs) h (c.args.first + (i + 1)) _ _ e (omega arith) f;
      written = wired_rest x rest j s (length cs) h (c.args.first + (i + 1)) _ cs _ e f g ∙ (ap (λ v. wired_cells (crossings v j (starting s)) cs) (sym d) ∙ c.loop-i.invariant.written);
      inside = λ y. entered_rest x rest j s (length cs) h (c.args.first + (i + 1)) _ e f y ∙ (ap (λ v. entered v j (starting s) y) (sym d) ∙ c.loop-i.invariant.inside y);
      long = length-set s x _ ∙ c.loop-i.invariant.long;
    }
