use Rattle.std.proofs.Common.{◌∷◌}
use Rattle.std.specs.List.{flat_map}
use Rattle.writer.specs.Written.{Wrote}
use Rattle.writer.proofs.Writer.stack.Given as goal

abbrev pub invariant-loop-cell : goal.invariant-loop-cell
invariant-loop-cell g l = Wrote l.initial.self (flat_map (λ x. 44 ∷ g.C.Text.text x.now) l.yielded) l.self
