use Rattle.std.proofs.Common.{sym, arith}
use Rattle.std.proofs.lemmas.List.{take_more}
use Rattle.writer.proofs.Writing.{wrote_is, wrote_more}
use Rattle.writer.proofs.Writer.bytes.Goals as goal

pub loop-b-preserved : goal.loop-b-preserved
loop-b-preserved c = wrote_is (sym (take_more c.args.text.now c.loop-b.b-index 0 (omega arith))) (wrote_more _ _ c.loop-b.invariant c.put.ensures)
