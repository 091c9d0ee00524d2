use Rattle.grammar.proofs.Whole.{fit, sound, complete, unambiguous, rightly}
use Rattle.grammar.proofs.signs_read_exactly.Goals as goal

pub returns : goal.returns
returns c = record { roles = fit; sound = sound; complete = complete; unambiguous = unambiguous; refused = rightly }
