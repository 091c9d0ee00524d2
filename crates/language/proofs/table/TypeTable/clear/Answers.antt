use Rattle.language.proofs.Cells.{nothing}
use Rattle.language.proofs.table.TypeTable.clear.Goals as goal

pub invariant_of-self-clause-heights : goal.invariant_of-self-clause-heights
invariant_of-self-clause-heights c = λ k A d. absurd (nothing _ c.clear.ensures.items k A d)

pub invariant_of-self-clause-counts : goal.invariant_of-self-clause-counts
invariant_of-self-clause-counts c = λ k A d. absurd (nothing _ c.clear.ensures.items k A d)
