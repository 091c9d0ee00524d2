use Rattle.std.proofs.Common.{sym, ◌∙◌, arith}
use Rattle.std.proofs.lemmas.List.{get_or_default}
use Rattle.language.proofs.Cells.{inside}
use Rattle.language.proofs.table.TypeTable.cell.Goals as goal

pub index-requires : goal.index-requires
index-requires c = omega (arith, inside _ _ _ c.requires.1, c.args.self.now.cells.ok.0)

pub returns : goal.returns
returns c = get_or_default _ _ _ _ (inside _ _ _ c.requires.1) ∙ sym c.index.ensures
