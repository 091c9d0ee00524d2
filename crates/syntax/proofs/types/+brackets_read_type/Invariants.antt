use Rattle.std.proofs.Common.{◌+◌, ◌-◌, ◌*◌}
use Rattle.syntax.proofs.types.+brackets_read_type.Given as goal

abbrev pub decreases-read_type : goal.decreases-read_type
decreases-read_type l = 2 * (64 - l.depth)

abbrev pub decreases-brackets : goal.decreases-brackets
decreases-brackets l = 2 * (64 - l.depth) + 1
