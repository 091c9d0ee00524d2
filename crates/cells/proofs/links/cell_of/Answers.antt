use Rattle.cells.proofs.Nodes.{shows_node}
use Rattle.cells.proofs.links.cell_of.Goals as goal

pub returns : goal.returns
returns c = rw c.copied.ensures (shows_node c.args.cells.now c.args.port c.get.result c.get.ensures.lookup)
