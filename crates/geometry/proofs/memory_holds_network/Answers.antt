use Rattle.geometry.proofs.Memory.{memory_holds}
use Rattle.geometry.proofs.Values.{read_back}
use Rattle.geometry.proofs.memory_holds_network.Goals as goal

pub returns : goal.returns
returns c = record { written = memory_holds; seen = read_back }
