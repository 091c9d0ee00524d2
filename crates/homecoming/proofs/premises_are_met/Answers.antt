use Rattle.homecoming.proofs.premises_are_met.Goals as goal
use Rattle.homecoming.proofs.Example.{met}

pub returns : goal.returns
returns c = met
