use Rattle.stack.proofs.Shelved.{place-slice}
use Rattle.stack.proofs.shelving.Shelves.shelf.Goals as goal

pub returns-in-Some : goal.returns-in-Some
returns-in-Some g c = place-slice c.args.self.now c.args.j c.in-Some.k c.in-Some.ensures
