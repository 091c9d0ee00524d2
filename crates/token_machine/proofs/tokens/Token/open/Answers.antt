use Rattle.token.proofs.Distances.{distances_agree}
use Rattle.token.proofs.Reaching.{never_unlinked}
use Rattle.token_machine.proofs.tokens.Token.open.Goals as goal

pub returns-clause-distances : goal.returns-clause-distances
returns-clause-distances c = distances_agree _ _

pub returns-clause-linked : goal.returns-clause-linked
returns-clause-linked c = never_unlinked _ _
