use Rattle.std.proofs.Common.{sym}
use Rattle.cells.specs.Ports.{nodes_of}
use Rattle.cells.proofs.Nodes.{inside_below, link_read, end-inside}
use Rattle.cells.proofs.links.link_of.Goals as goal

pub bounds-cells-port : goal.bounds-cells-port
bounds-cells-port c = inside_below c.args.cells.now c.args.port (sym c.if-not-is_inside.ensures)

pub returns : goal.returns
returns c =
    let cs = c.args.cells.now in
    let h = sym c.if-not-is_inside.ensures in
    end-inside (nodes_of cs) c.args.port _ h (link_read cs c.args.port _ (inside_below cs c.args.port h))
