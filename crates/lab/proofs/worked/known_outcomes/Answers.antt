use Rattle.lab.proofs.Outcomes.{known_outcomes}
use Rattle.lab.proofs.worked.known_outcomes.Goals as goal

pub returns : goal.returns
returns c = known_outcomes c.known_answers.ensures c.texts_accepted_exactly.ensures.exactly c.out_and_back.ensures.computed
