use Rattle.geometry.proofs.Soundness.{sound}
use Rattle.geometry.proofs.network_is_sound.Goals as goal

pub returns : goal.returns
returns c = sound
