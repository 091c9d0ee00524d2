use Rattle.std.proofs.Common.{vec_len}
use Rattle.runs.proofs.performing.keep_all.Given as goal

abbrev pub decreases-loop-probe : goal.decreases-loop-probe
decreases-loop-probe g l = vec_len l.probes
