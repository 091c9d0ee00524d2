use Rattle.std.proofs.Common.{decimal, sym, ap}
use Rattle.writer.proofs.Writing.{wrote_is, wrote_more}
use Rattle.token.specs.Line.{iter_text}
use Rattle.token.proofs.texts.IterCellText.write.Goals as goal

pub returns-in-Pair : goal.returns-in-Pair
returns-in-Pair c =
    wrote_is (ap iter_text (sym c.in-Pair.is))
    (wrote_more _ _ (wrote_is (ap decimal c.from-in-Pair.ensures) c.number-in-Pair.ensures)
    (wrote_more _ _ c.put.ensures (wrote_is (ap decimal c.from-in-Pair-2.ensures) c.number-in-Pair-2.ensures)))
