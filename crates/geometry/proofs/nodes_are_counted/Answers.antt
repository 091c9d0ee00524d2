use Rattle.geometry.proofs.Soundness.{network-length}
use Rattle.geometry.proofs.Weights.{successors-counted}
use Rattle.geometry.proofs.Values.{numbers-listed, numbers_kept}
use Rattle.geometry.proofs.nodes_are_counted.Goals as goal

pub returns : goal.returns
returns c = record { nodes = network-length; successors = successors-counted; listed = numbers-listed; numbers = numbers_kept }
