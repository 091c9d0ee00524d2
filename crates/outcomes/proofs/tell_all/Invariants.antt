use Rattle.std.proofs.Common.{length}
use Rattle.outcomes.proofs.tell_all.Given as goal

-- the bytes that are still to be read
abbrev pub decreases-loop-rest : goal.decreases-loop-rest
decreases-loop-rest g l = length l.rest
