use Rattle.geometry.proofs.Local.{local}
use Rattle.geometry.proofs.Soundness.{wires_kept}
use Rattle.geometry.proofs.links_are_wires.Goals as goal

pub returns : goal.returns
returns c = record { kept = λ t A d. wires_kept d; local = local }
