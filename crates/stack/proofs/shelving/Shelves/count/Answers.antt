use Rattle.std.proofs.Common.{◌≡◌, ◌∙◌, length, sym, arith, rules}
use Rattle.std.proofs.lemmas.Iterator.{YieldsList-from_slice, YieldsList-from_map}
use Rattle.std.proofs.lemmas.Iterator.Consumers.{sum_by_from_yields_List, fits_by_from_yields_list}
use Rattle.stack.proofs.Shelved.{heights_sum, cells_held_heights}
use Rattle.stack.proofs.shelving.Shelves.count.Goals as goal

pub sum-requires-clause-fits : goal.sum-requires-clause-fits
sum-requires-clause-fits g c =
    let s = c.args.self.now in
    let hl : length s.heights ≡ 64 = search rules in
    fits_by_from_yields_list (λ x. x) s.heights c.map.result _ (YieldsList-from_map _ (λ x. x) (YieldsList-from_slice s.heights cc) c.map.ensures.closure (λ x r q k. search rules)) (omega (arith, heights_sum s hl))

pub returns : goal.returns
returns g c =
    let s = c.args.self.now in
    let hl : length s.heights ≡ 64 = search rules in
    sum_by_from_yields_List (λ x. x) s.heights c.map.result _ c.sum.ensures.ran (YieldsList-from_map _ (λ x. x) (YieldsList-from_slice s.heights cc) c.map.ensures.closure (λ x r q k. search rules))
    ∙ sym (cells_held_heights s hl)
