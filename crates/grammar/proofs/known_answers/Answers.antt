use Rattle.grammar.proofs.Known.{known}
use Rattle.grammar.proofs.known_answers.Goals as goal

pub returns : goal.returns
returns c = known
