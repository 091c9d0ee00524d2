use Rattle.std.proofs.Common.{◌+◌, ◌*◌}
use Rattle.network.proofs.wire.Wiring.+wire_wire_inside.Given as goal

abbrev pub decreases-wire : goal.decreases-wire
decreases-wire l = 2 * l.i

abbrev pub decreases-wire_inside : goal.decreases-wire_inside
decreases-wire_inside l = 2 * l.i + 1
