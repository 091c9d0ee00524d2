use Rattle.std.proofs.Common.{◌≡◌, ℕ, ◌-◌, inl, inr, List, [], not, map, length, drop, ◌∙◌, vec_items, Option, None, Some, Bor, unwrap_or, refl, ap, sym, arith, length-drop, take_all, rules, tests}
use Rattle.std.specs.List.{PartBy}
use Rattle.std.proofs.lemmas.Iterator.{YieldsList-from_slice}
use Rattle.std.proofs.lemmas.Iterator.Consumers.{YieldsList-at, YieldsList-from_filter, fold_from_yields_List}
use Rattle.std.proofs.lemmas.List.{drop-map, drop_all}
use Rattle.syntax.specs.declared.refusal.Fault.TheVariants.{Unused}
use Rattle.syntax.specs.declared.refusal.Refusal.{Refusal}
use Rattle.syntax.specs.declared.scope.InForce.{InForce as HeldForce}
use Rattle.syntax.specs.Names.{fault, sooner}
use Rattle.syntax.specs.Scopes.{InForce, Names, unused}
use Rattle.syntax.specs.Held.{spelled, name_in_force}
use Rattle.syntax.proofs.NameSteps.{unused_fold}
use Rattle.syntax.proofs.scope.Scope.settle.Goals as goal

-- what `get` gives of the list from place h on, and nothing where it ends before
from_on : (d : List HeldForce) (h : ℕ) (o : Option (Bor (List HeldForce))) (none : Bor (List HeldForce)) → none.now ≡ [] → PartBy (λ x. x.now) d h (length d) o → (unwrap_or o none).now ≡ drop h d
from_on d h None none e (inl k, _) = e ∙ sym (drop_all h d (omega arith))
from_on d h None none e (inr k, _) = absurd (omega arith)
from_on d h (Some x) none e k = k.0.2 ∙ take_all (length d - h) (drop h d) (omega (arith, length-drop h d))

pub returns : goal.returns
returns c =
    let s = c.args.self.now in
    let xs = vec_items s.in_force in
    let d = c.deref.result.now in
    let h = c.args.before in
    let ys = c.unwrap_or-own.result.now in
    let e : ys ≡ drop h xs = ap (λ x. x.now) c.unwrap_or-own.ensures ∙ from_on d h _ _ refl c.get.ensures.lookup ∙ ap (drop h) c.deref.ensures.value in
    let least = fold_from_yields_List _ (λ g x. sooner (fault Unused x.place) g) s.least c.fold-self.result c.fold-self.ensures.ran (YieldsList-from_filter _ (λ (x : HeldForce). not x.used) (YieldsList-at c.filter-idle.ensures.source (YieldsList-from_slice ys cc)) c.filter-idle.ensures.closure (λ x b q k. search (rules, tests))) (λ a x b q k. search (rules, tests)) in
    let F : Option Refusal → Names = λ f. record { bound = map spelled (vec_items s.bound); force = map name_in_force xs; least = f } in
    ap F (least ∙ unused_fold ys s.least ∙ ap (λ (l : List HeldForce). unused (map name_in_force l) s.least) e ∙ ap (λ (l : List InForce). unused l s.least) (sym (drop-map name_in_force h xs)))
