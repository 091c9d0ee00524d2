-- Where a walk stands, read of its machine and its sum.
use Rattle.machine.specs.declared.walks.Walk.{Walk}
use Rattle.machine.specs.Walks.{Place, place}

-- the machine's state, and the sum
abbrev pub stands : {M S : Type 0} → (M → S) → Walk M → Place S
stands state w = place (state w.machine) w.sum.value
