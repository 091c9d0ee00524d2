use Rattle.std.proofs.Common.{List, map, vec_items, sym, ap, ◌∙◌}
use Rattle.syntax.specs.Scopes.{InForce, Names}
use Rattle.syntax.specs.Held.{spelled, name_in_force}
use Rattle.std.proofs.lemmas.List.{take-map}
use Rattle.syntax.proofs.scoping.Guard.drop.Goals as goal

pub returns : goal.returns
returns c =
    let s = c.args.self.0.now in
    let F : List InForce → Names = λ f. record { bound = map spelled (vec_items s.bound); force = f; least = s.least } in
    ap F (ap (map name_in_force) c.truncate.ensures.items ∙ sym (take-map name_in_force c.args.self.1 (vec_items s.in_force)))
