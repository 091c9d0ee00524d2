use Rattle.std.proofs.Common.{refl, subst, Ok, Err}
use Rattle.machine.specs.Walks.{place}
use Rattle.token_machine.specs.declared.tokens.Token.{Token}
use Rattle.token_machine.specs.Tokens.{state_of}
use Rattle.writer.specs.Written.{Shown}
use Rattle.lab.specs.Listings.{last_of, lines, longest}
use Rattle.outcomes.specs.Lines.{line_of}
use Rattle.outcomes.proofs.show_end.Goals as goal
use lib.IntN.{ℤ}

-- the walk begins at the opening of the token
pub returns-in-Ok : goal.returns-in-Ok
returns-in-Ok c =
    let token = c.in-Ok.token in
    let walk = c.new.result in
    let machine = subst (λ (t : Token). Shown (last_of (lines longest (place (state_of t) walk.sum.value))) c.args.line.now c.show_outcome.new.buf c.show_outcome.result) c.new.ensures.0 c.show_outcome.ensures in
    let shown = subst (λ (z : ℤ). Shown (last_of (lines longest (place (state_of token) z))) c.args.line.now c.show_outcome.new.buf c.show_outcome.result) c.new.ensures.1 machine in
    record { line = line_of (Ok token); answered = record { memory = c.lend.result; whole = c.lend.ensures; result = Ok token; opened = c.in-Ok.ensures.opened; is = refl }; shown = shown }

pub returns-in-Err : goal.returns-in-Err
returns-in-Err c =
    let refused = c.in-Err.refused in
    record { line = line_of (Err refused); answered = record { memory = c.lend.result; whole = c.lend.ensures; result = Err refused; opened = c.in-Err.ensures.opened; is = refl }; shown = c.show_text.ensures }
