use Rattle.cells.proofs.Nodes.{inside-then, inside_else}
use Rattle.cells.proofs.links.is_inside.Goals as goal

pub returns-then-port-ne-ABSENT : goal.returns-then-port-ne-ABSENT
returns-then-port-ne-ABSENT c = inside-then c.args.cells.now c.args.port c.if-port-ne-ABSENT.true

pub returns-else-port-ne-ABSENT : goal.returns-else-port-ne-ABSENT
returns-else-port-ne-ABSENT c = inside_else c.args.cells.now c.args.port c.if-port-ne-ABSENT.false
