use Rattle.std.proofs.Common.{take}
use Rattle.writer.specs.Written.{Wrote}
use Rattle.writer.proofs.Writer.bytes.Given as goal

abbrev pub invariant-loop-b : goal.invariant-loop-b
invariant-loop-b l = Wrote l.initial.self (take l.b-index l.text) l.self
