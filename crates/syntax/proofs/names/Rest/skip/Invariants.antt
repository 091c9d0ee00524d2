use Rattle.std.proofs.Common.{◌≡◌, ◌≤◌, length}
use Rattle.syntax.specs.Steps.{skipped}
use Rattle.syntax.proofs.names.Rest.skip.Given as goal

abbrev pub invariant-loop-bytes : goal.invariant-loop-bytes
invariant-loop-bytes l = record { skips : skipped l.bytes ≡ skipped l.self.bytes.now; within : length l.bytes ≤ l.self.end }

abbrev pub decreases-loop-bytes : goal.decreases-loop-bytes
decreases-loop-bytes l = length l.bytes
