-- The promises about whole walks, together.
use Rattle.std.proofs.Common.{ℤ}
use Rattle.machine.specs.Steps.{Next}
use Rattle.runs.specs.Runs.{RunLaw}
use Rattle.lab.specs.Whole.{WholeWalks}
use Rattle.lab.proofs.Distances.{distances_of_walks}
use Rattle.lab.proofs.Programs.{accepted_come_home}

-- the two of tokens stand beside the run law of any machine
pub whole_walks : {S Q R : Type 0} {next : S → Next S} {turned : S → S} {reads : S → ℤ → Q → R → Type 0} → RunLaw next turned reads → WholeWalks next turned reads
whole_walks law = record { run_law = law; distance_law = distances_of_walks; homecoming = accepted_come_home }
