use Rattle.std.proofs.Common.{Err, ap, ◌∙◌}
use Rattle.std.proofs.lemmas.Result.{err_from_is_err_and}
use Rattle.machine.specs.Walks.{Place, place}
use Rattle.token.specs.State.{State}
use Rattle.token_machine.specs.Tokens.{state_of}
use Rattle.lab.specs.declared.listing.Listing.{Listing}
use Rattle.lab.proofs.Advancing.{line_listed, end_listed, line_too_long, end_too_long}
use Rattle.lab.proofs.listing.Listing.next_line.Goals as goal

abbrev at : Listing → Place State
at l = place (state_of l.walk.machine) l.walk.sum.value

pub returns-in_err-length-in-Lines : goal.returns-in_err-length-in-Lines
returns-in_err-length-in-Lines c =
    let l = c.args.self.now in
    let e = err_from_is_err_and c.from_residual.result c.from_residual.ensures.1 in
    line_too_long l.stage (at l) c.args.buf.now c.show.new.buf c.in-Lines.left c.in_err-length-in-Lines.field-0.0 c.from_residual.result c.in-Lines.is (e.1 ∙ ap Err e.2) c.in_err-length-in-Lines.ensures

pub returns-in_err-length-in-End : goal.returns-in_err-length-in-End
returns-in_err-length-in-End c =
    let l = c.args.self.now in
    let e = err_from_is_err_and c.from_residual-in_err-length-in-End.result c.from_residual-in_err-length-in-End.ensures.1 in
    end_too_long l.stage (at l) c.args.buf.now c.show_end.new.buf c.in-End.why c.in_err-length-in-End.field-0.0 c.from_residual-in_err-length-in-End.result c.in-End.is (e.1 ∙ ap Err e.2) c.in_err-length-in-End.ensures

pub returns-in_ok-length-in-Lines : goal.returns-in_ok-length-in-Lines
returns-in_ok-length-in-Lines c =
    let l = c.args.self.now in
    line_listed l.stage (at l) c.args.buf.now c.show.new.buf c.in-Lines.left c.in_ok-length-in-Lines.length _ c.in-Lines.is c.advance.ensures c.in_ok-length-in-Lines.ensures

pub returns-in_ok-length-in-End : goal.returns-in_ok-length-in-End
returns-in_ok-length-in-End c =
    let l = c.args.self.now in
    end_listed l.stage (at l) c.args.buf.now c.show_end.new.buf c.in-End.why c.in_ok-length-in-End.length c.in-End.is c.in_ok-length-in-End.ensures
