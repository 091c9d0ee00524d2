use Rattle.grammar.proofs.Naming.{right, leastly}
use Rattle.grammar.proofs.names_checked_exactly.Goals as goal

pub returns : goal.returns
returns c = record { right = right; least = leastly }
