use Rattle.lab.proofs.Whole.{whole_walks}
use Rattle.lab.proofs.performing.perform.Goals as goal

pub returns : goal.returns
returns g c = record { performed = c.perform.ensures.performed; whole = whole_walks c.perform.ensures.law }
