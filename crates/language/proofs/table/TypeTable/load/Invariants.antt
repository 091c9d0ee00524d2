use Rattle.std.proofs.Common.{◌≡◌, ◌++◌, take, vec_items}
use Rattle.language.proofs.table.TypeTable.load.Given as goal

abbrev pub invariant-loop-cell : goal.invariant-loop-cell
invariant-loop-cell l = vec_items l.self.cells ≡ vec_items l.initial.self.cells ++ take l.cell-index l.cells
