use Rattle.std.proofs.Common.{◌≡◌, length, sym, refl, subst, rules}
use Rattle.std.specs.Prelude.{Ok}
use Rattle.stack.specs.Shelving.{shelves, complete, ShelfAnswered}
use Rattle.stack.proofs.Shelved.{kept_answered, place-edited}
use Rattle.stack.proofs.shelving.Shelves.edit.Goals as goal

pub returns-in-Keep-clause-answer : goal.returns-in-Keep-clause-answer
returns-in-Keep-clause-answer g c =
    let s = c.args.self.now in
    subst (λ e. ShelfAnswered (shelves s) (complete s) c.args.j e (Ok tt) (shelves s)) (sym c.in-Keep.is) (kept_answered s c.args.j)

pub returns : goal.returns
returns g c =
    let s = c.args.self.now in
    let hl : length s.heights ≡ 64 = search rules in
    let e = place-edited s c.args.j c.in-Some.k c.in-Some.ensures _ _ c.edit-done.new.self c.args.e c.edit-done.result _ hl refl refl c.edit-done.ensures.answer c.edit-done.ensures.room (search rules) refl refl in
    record { answer = e.0; complete = e.1 }
