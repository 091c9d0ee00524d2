use Rattle.std.proofs.Common.{refl, ap}
use Rattle.std.proofs.lemmas.Result.{err_from_is_err_and}
use Rattle.machine.specs.Steps.{to, then}
use Rattle.machine.specs.Strides.{strided}
use Rattle.machine.specs.Lawful.{go_none}
use Rattle.machine.proofs.Ways.{go_more, go_stops}
use Rattle.machine.proofs.strides.StrideMachine.step.Goals as goal

pub loop-done-init : goal.loop-done-init
loop-done-init g c = (go_none _ _, refl)

pub loop-done-preserved : goal.loop-done-preserved
loop-done-preserved g c = (go_more _ _ _ _ _ c.loop-done.invariant.0 c.in_ok-step_or_retrace.ensures, c.loop-done.invariant.1)

pub returns-in_err-step_or_retrace : goal.returns-in_err-step_or_retrace
returns-in_err-step_or_retrace g c =
    let p = err_from_is_err_and c.from_residual.result c.from_residual.ensures.1 in
    let e = c.in_err-step_or_retrace.ensures in
    let k = c.args.self.now.k in
    let met = go_stops g.M.Machine.next _ _ _ _ _ c.loop-done-test.true c.loop-done.invariant.0 e.0 in
    let home = e.1 _ c.loop-done.invariant.0 in
    rw (p.1, p.2) (ap (λ o. then o (λ y. to (strided k y))) met, cc)
