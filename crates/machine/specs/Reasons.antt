-- The public numbers of the reasons.
use Rattle.std.specs.Prelude.{ℕ}
use Rattle.machine.specs.declared.reasons.Reason.{Reason}
use Rattle.machine.specs.declared.reasons.Reason.TheVariants.{Home, NoRow, Unlinked, Full, Overflow, WalkLimit, NoNumber, TooManySteps, ShortBuffer}

abbrev pub number_of : Reason → ℕ
number_of Home = 21
number_of NoRow = 22
number_of Unlinked = 23
number_of Full = 24
number_of Overflow = 25
number_of WalkLimit = 26
number_of NoNumber = 27
number_of TooManySteps = 28
number_of ShortBuffer = 29
