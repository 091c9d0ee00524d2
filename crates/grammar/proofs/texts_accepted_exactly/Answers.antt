use Rattle.grammar.proofs.Exact.{exactly, one, rejected}
use Rattle.grammar.proofs.texts_accepted_exactly.Goals as goal

pub returns : goal.returns
returns c = record { exactly = exactly; one = one; rejected = rejected }
