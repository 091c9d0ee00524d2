use Rattle.std.proofs.Common.{◌≡◌}
use Rattle.machine.specs.Steps.{to, go}
use Rattle.machine.specs.Walks.{place, may}
use Rattle.machine.proofs.walks.Walk.take_steps.Given as goal

abbrev pub invariant-loop-granted : goal.invariant-loop-granted
invariant-loop-granted g l =
    let m = g.M.Machine in
    go (may l.heading m.next) l.granted (place (m.state l.initial.self.machine) l.initial.self.sum.value) ≡ to (place (m.state l.self.machine) l.self.sum.value)
