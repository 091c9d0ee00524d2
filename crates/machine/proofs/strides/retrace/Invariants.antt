use Rattle.std.proofs.Common.{◌≡◌, ◌-◌}
use Rattle.machine.specs.Steps.{to, go}
use Rattle.machine.proofs.strides.retrace.Given as goal

-- what leads by n steps to where m stood leads by n - i steps to where it stands, turned again
abbrev pub invariant-loop-i : goal.invariant-loop-i
invariant-loop-i g l =
    let m = g.M.Machine in
    (x : m.State) → go m.next l.n x ≡ to (m.turned (m.state l.initial.m)) → go m.next (l.n - l.i) x ≡ to (m.turned (m.state l.m))
