use Rattle.std.proofs.Common.{◌≡◌, take, vec_items}
use Rattle.language.proofs.Tally.{tally}
use Rattle.language.proofs.facts.facts.Given as goal

abbrev pub invariant-loop-typing : goal.invariant-loop-typing
invariant-loop-typing l = l.facts ≡ tally l.subs (vec_items l.types.measures) (take l.typing-index l.typings)
