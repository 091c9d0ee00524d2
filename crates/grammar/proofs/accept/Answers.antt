use Rattle.grammar.proofs.Verdicts.{verdict}
use Rattle.grammar.proofs.accept.Goals as goal

pub returns : goal.returns
returns c = verdict _ _ c.check.ensures
