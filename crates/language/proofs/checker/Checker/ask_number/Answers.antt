use Rattle.std.proofs.Common.{◌∙◌}
use Rattle.language.proofs.Cells.{reads}
use Rattle.language.proofs.checker.Checker.ask_number.Goals as goal

pub returns-in-N : goal.returns-in-N
returns-in-N c = λ A d. reads A _ _ _ (c.cell.ensures ∙ c.in-N.is) d
