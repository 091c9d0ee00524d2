use Rattle.std.proofs.Common.{ℕ, List, sym, subst}
use Rattle.machine.specs.Walks.{place}
use Rattle.token_machine.specs.Tokens.{state_of}
use Rattle.writer.specs.Written.{Shown}
use Rattle.lab.proofs.Advancing.{outcome_shown}
use Rattle.lab.proofs.listing.show_outcome.Goals as goal

pub returns : goal.returns
returns c =
    let before = c.args.walk.now in
    let after = c.forward-why.new.self in
    let last = outcome_shown (place (state_of before.machine) before.sum.value) (place (state_of after.machine) after.sum.value) c.forward-why.result c.forward-why.ensures in
    subst (λ (l : List ℕ). Shown l c.args.buf.now c.show_end.new.buf c.show_end.result) (sym last) c.show_end.ensures
