use Rattle.std.proofs.Common.{◌-◌, length, take}
use Rattle.std.proofs.lemmas.Iterator.Adapters.{YieldsList-from_rev_slice}
use Rattle.std.proofs.lemmas.Iterator.Consumers.{YieldsList-end}
use Rattle.writer.proofs.Writing.{cell_put, all_put}
use Rattle.writer.proofs.Writer.stack.Goals as goal

pub loop-cell-preserved : goal.loop-cell-preserved
loop-cell-preserved g c = cell_put g.C.Text.text c.loop-cell.yielded c.in-Some.cell c.loop-cell.invariant c.put-in-loop-cell.ensures c.write-in-loop-cell.ensures

pub returns : goal.returns
returns g c =
    let end = YieldsList-end (YieldsList-from_rev_slice (take (length c.args.cells.now - 1) c.args.cells.now) (cc)) c.loop-cell.yielded _ c.loop-cell.yielded_by _ _ c.in-None.is c.next.ensures.steps in
    all_put g.C.Text.text c.args.cells.now _ c.loop-cell.yielded c.in-len1-up.len_at_least c.top-item.is end.0 c.write.ensures c.loop-cell.invariant
