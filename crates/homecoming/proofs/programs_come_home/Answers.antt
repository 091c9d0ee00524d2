use Rattle.homecoming.proofs.programs_come_home.Goals as goal
use Rattle.homecoming.proofs.Programs.{programs_come_home}

pub returns : goal.returns
returns c = programs_come_home
