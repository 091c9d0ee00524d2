use Rattle.stack.specs.Shelving.{shelves}
use Rattle.stack.proofs.Shelved.{none-fits, shelved_none}
use Rattle.stack.proofs.shelving.Shelves.new.Goals as goal

pub invariant_of-result : goal.invariant_of-result
invariant_of-result g c = record { fits = none-fits c.args.cells.now }

pub returns-clause-empty : goal.returns-clause-empty
unfolding shelves
returns-clause-empty g c = shelved_none c.args.cells.now
