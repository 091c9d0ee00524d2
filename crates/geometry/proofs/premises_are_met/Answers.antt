use Rattle.geometry.proofs.Programs.{met}
use Rattle.geometry.proofs.premises_are_met.Goals as goal

pub returns : goal.returns
returns c = met
