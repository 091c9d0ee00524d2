use Rattle.std.proofs.Common.{◌≡◌}
use Rattle.machine.specs.Steps.{to, go}
use Rattle.machine.proofs.strides.StrideMachine.step.Given as goal

abbrev pub invariant-loop-done : goal.invariant-loop-done
invariant-loop-done g l =
    let m = g.M.Machine in
    (go m.next l.done (m.state l.initial.self.below) ≡ to (m.state l.self.below)) × (l.self.k ≡ l.initial.self.k)
