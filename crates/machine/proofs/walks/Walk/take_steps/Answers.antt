use Rattle.machine.specs.Lawful.{go_none}
use Rattle.machine.specs.Walks.{may}
use Rattle.machine.proofs.Ways.{go_more}
use Rattle.machine.proofs.walks.Walk.take_steps.Goals as goal

pub loop-granted-init : goal.loop-granted-init
loop-granted-init g c = go_none _ _

pub loop-granted-preserved : goal.loop-granted-preserved
loop-granted-preserved g c = go_more (may c.args.heading g.M.Machine.next) _ _ _ _ c.loop-granted.invariant c.in_default.ensures
