use Rattle.std.proofs.Common.{◌∙◌}
use Rattle.language.proofs.Cells.{reads}
use Rattle.language.proofs.table.TypeTable.components.Goals as goal

pub returns-in-Product : goal.returns-in-Product
returns-in-Product c = λ A d. let m = reads A _ _ _ (c.cell.ensures ∙ c.in-Product.is) d in (m.a, m.b, m.is, m.first, m.second)
