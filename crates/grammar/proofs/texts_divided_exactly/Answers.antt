use Rattle.grammar.proofs.Dividing.{exactly}
use Rattle.grammar.proofs.texts_divided_exactly.Goals as goal

pub returns : goal.returns
returns c = exactly
