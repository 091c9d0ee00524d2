use Rattle.syntax.proofs.Examples.{worked}
use Rattle.syntax.proofs.small_texts.Goals as goal

pub returns : goal.returns
returns c = worked
