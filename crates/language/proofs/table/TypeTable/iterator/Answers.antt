use Rattle.std.proofs.Common.{◌∙◌}
use Rattle.language.proofs.Cells.{reads}
use Rattle.language.proofs.table.TypeTable.iterator.Goals as goal

pub same-requires : goal.same-requires
same-requires c = let m = reads _ _ _ _ (c.cell-2.ensures ∙ c.in-N-Arrow.is-1) c.requires.step.1 in record { left = (_, m.first); right = (_, m.second) }

pub same-requires-then-same : goal.same-requires-then-same
same-requires-then-same c = let m = reads _ _ _ _ (c.cell-2.ensures ∙ c.in-N-Arrow.is-1) c.requires.step.1 in record { left = (_, m.first); right = c.requires.base }
