use Rattle.machine.proofs.Retracing.{retrace_more, retraced}
use Rattle.machine.proofs.strides.retrace.Goals as goal

pub loop-i-preserved : goal.loop-i-preserved
loop-i-preserved g c = λ x h. retrace_more g.M.Machine.lawful _ _ x _ _ _ c.loop-i-test.true (c.loop-i.invariant x h) c.step.ensures

pub returns : goal.returns
returns g c = λ x. retraced g.M.Machine.lawful _ _ x _ _ _ _ c.loop-i-test.false c.turn.ensures (c.loop-i.invariant x) c.turn-2.ensures
