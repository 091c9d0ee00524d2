use Rattle.std.proofs.Common.{◌≡◌, ◌≤◌, take}
use Rattle.syntax.specs.Signs.{number_of}
use Rattle.syntax.proofs.scan.number.Given as goal

abbrev pub invariant-loop-b : goal.invariant-loop-b
invariant-loop-b l = (l.value ≡ number_of (take l.b-index l.run)) × (l.value ≤ 1000000000)
