use Rattle.grammar.proofs.Unique.{unique, sums}
use Rattle.grammar.proofs.Inferred.{inferred, derived, linearly, first}
use Rattle.grammar.proofs.types_inferred_exactly.Goals as goal

pub returns : goal.returns
returns c = record { inferred = inferred; derived = derived; linear = linearly; first = first; unique = unique; summed = sums }
