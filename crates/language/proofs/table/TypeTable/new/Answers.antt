use Rattle.language.proofs.Cells.{nothing}
use Rattle.language.proofs.table.TypeTable.new.Goals as goal

pub invariant_of-result-clause-heights : goal.invariant_of-result-clause-heights
invariant_of-result-clause-heights c = λ k A d. absurd (nothing _ c.in_ok-cells.ensures.items k A d)

pub invariant_of-result-clause-counts : goal.invariant_of-result-clause-counts
invariant_of-result-clause-counts c = λ k A d. absurd (nothing _ c.in_ok-cells.ensures.items k A d)
