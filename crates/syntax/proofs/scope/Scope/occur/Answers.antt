use Rattle.std.proofs.Common.{◌≡◌, true, false, map, vec_items, sym, refl, ap, ◌∙◌, rules, All}
use Rattle.syntax.specs.Scopes.{occur}
use Rattle.syntax.specs.Held.{spelled}
use Rattle.syntax.proofs.NameSteps.{Other, IsLast, found_none, binder_none, binder_last, occur_at}
use Rattle.syntax.proofs.scope.Scope.occur.Goals as goal

pub returns-in_default : goal.returns-in_default
returns-in_default c =
    let xs = vec_items c.args.self.now.in_force in
    let w = c.args.word.now in
    let none : All (Other w) xs = search rules in
    record { names = c.note.ensures ∙ (let e = found_none w xs none in rw (e, occur) refl); binder = sym (binder_none w xs c.args.place none) }

pub returns-then-name : goal.returns-then-name
returns-then-name c =
    let s = c.args.self.now in
    let xs = vec_items s.in_force in
    let w = c.args.word.now in
    let x = c.index-name.result.now in
    let last : IsLast w xs c.in-Some.i = search rules in
    record {
      names = c.note-then-name.ensures ∙ sym (occur_at c.args.place w (map spelled (vec_items s.bound)) xs s.least c.in-Some.i x last c.index-name.ensures ∙ (let u : x.used ≡ true = c.if-name.true in rw u));
      binder = ap (λ y. y.place) c.index-name.ensures ∙ sym (binder_last w xs c.in-Some.i c.args.place x last);
    }

pub returns-else-name : goal.returns-else-name
returns-else-name c =
    let s = c.args.self.now in
    let xs = vec_items s.in_force in
    let w = c.args.word.now in
    let x = c.index-name.result.now in
    let y = c.index_mut.result.now in
    let last : IsLast w xs c.in-Some.i = search rules in
    let u : y.used ≡ false = search rules in
    record {
      names = sym (occur_at c.args.place w (map spelled (vec_items s.bound)) xs s.least c.in-Some.i y last c.index_mut.ensures.value ∙ rw u);
      binder = ap (λ z. z.place) c.index-name.ensures ∙ sym (binder_last w xs c.in-Some.i c.args.place x last);
    }
