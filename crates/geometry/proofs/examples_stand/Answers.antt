use Rattle.std.proofs.Common.{refl}
use Rattle.geometry.specs.Network.{network}
use Rattle.geometry.proofs.Programs.{weighed_out}
use Rattle.geometry.proofs.examples_stand.Goals as goal

pub returns : goal.returns
unfolding network
returns c = record {
  networks = record { of_next_of_three = refl; of_applied = refl; of_taken_apart = refl; of_repeated = refl; of_nested = refl };
  weights = weighed_out;
}
