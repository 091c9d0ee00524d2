use Rattle.homecoming.proofs.comes_home.Goals as goal
use Rattle.homecoming.proofs.Way.{comes_home}

pub returns : goal.returns
returns c = λ ns label rs g memory. comes_home ns label rs g memory
