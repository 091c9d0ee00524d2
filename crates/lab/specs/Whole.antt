-- Whole walks: what is promised of every walk over a lawful machine, and of the tokens of programs. Assumes nothing.
use Rattle.std.specs.Prelude.{ℤ}
use Rattle.machine.specs.Steps.{Next}
use Rattle.runs.specs.Runs.{RunLaw}
use Rattle.lab.specs.Distances.{DistancesOfWalks}
use Rattle.lab.specs.Homecoming.{AcceptedComeHome}

pub record WholeWalks {S Q R : Type 0} (next : S → Next S) (turned : S → S) (reads : S → ℤ → Q → R → Type 0) : Type 0 where
  -- of this machine, whichever it is: after any calls the sum counts its steps, it stands that many next states from the opening, and like walks answer alike
  pub run_law : RunLaw next turned reads
  -- of every token opened with the question: number returns n exactly at the distance from question to n
  pub distance_law : DistancesOfWalks
  -- of every accepted text without iterator: the token comes home, after an odd number of steps, within the bound of its weight
  pub homecoming : AcceptedComeHome
