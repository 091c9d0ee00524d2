use Rattle.geometry.proofs.Labelling.{labelled, no_higher}
use Rattle.geometry.proofs.ports_are_typed.Goals as goal

pub returns : goal.returns
returns c = λ t d. (labelled t d, no_higher t d)
