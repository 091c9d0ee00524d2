use Rattle.geometry.proofs.Weights.{weight_kept}
use Rattle.geometry.proofs.Values.{plain}
use Rattle.geometry.proofs.weight_is_kept.Goals as goal

pub returns : goal.returns
returns c = record { weight = weight_kept; plain = plain }
