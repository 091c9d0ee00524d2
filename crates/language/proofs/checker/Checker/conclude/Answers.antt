use Rattle.std.proofs.lemmas.Result.{err_from_is_err_and}
use Rattle.language.proofs.Whole.{whole_ready, whole_stop, whole_type, whole_countable, whole_other, whole_done}
use Rattle.language.proofs.checker.Checker.conclude.Goals as goal

pub check-requires : goal.check-requires
check-requires c = whole_ready c.begin.ensures c.requires

pub returns-in_err-cell : goal.returns-in_err-cell
returns-in_err-cell c =
    let p = err_from_is_err_and c.from_residual.result c.from_residual.ensures.1 in
    rw (p.1, p.2) (whole_stop c.begin.ensures c.in_err-cell.ensures)

pub ask_number-requires : goal.ask_number-requires
ask_number-requires c = whole_type c.begin.ensures c.in_ok-cell.ensures c.requires

pub returns-in_err-ask_number : goal.returns-in_err-ask_number
returns-in_err-ask_number c =
    let p = err_from_is_err_and c.from_residual-in_err-ask_number.result c.from_residual-in_err-ask_number.ensures.1 in
    rw (p.1, p.2) (whole_other c.begin.ensures c.in_ok-cell.ensures _ c.in_err-ask_number.ensures)

pub counted-requires : goal.counted-requires
counted-requires c = whole_countable c.begin.ensures c.in_ok-cell.ensures c.requires

pub returns : goal.returns
returns c = whole_done c.begin.ensures c.in_ok-cell.ensures c.in_ok-ask_number.ensures c.counted.result c.counted.ensures
