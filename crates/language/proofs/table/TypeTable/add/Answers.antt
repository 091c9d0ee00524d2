use Rattle.std.proofs.Common.{[], ◌∷◌, ◌++◌, vec_items, ap, ◌∙◌}
use Rattle.language.specs.Measures.{measure_at}
use Rattle.language.proofs.Cells.{heights_more, naturals_more}
use Rattle.language.proofs.table.TypeTable.add.Goals as goal

pub invariant_of-self-clause-heights : goal.invariant_of-self-clause-heights
invariant_of-self-clause-heights c =
    let s = c.args.self.now in
    heights_more _ _ s.long s.heights s.counts _ _ _ c.push_reserved.ensures.items (c.push_reserved-2.ensures.items ∙ ap (λ m. vec_items s.measures ++ (m ∷ [])) (c.measured-measure.ensures ∙ ap (λ ms. measure_at ms c.args.cell) c.deref.ensures.value))

pub invariant_of-self-clause-counts : goal.invariant_of-self-clause-counts
invariant_of-self-clause-counts c =
    let s = c.args.self.now in
    naturals_more _ _ s.long s.heights s.counts _ _ _ c.push_reserved.ensures.items (c.push_reserved-2.ensures.items ∙ ap (λ m. vec_items s.measures ++ (m ∷ [])) (c.measured-measure.ensures ∙ ap (λ ms. measure_at ms c.args.cell) c.deref.ensures.value))
