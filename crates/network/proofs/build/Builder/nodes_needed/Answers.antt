use Rattle.std.proofs.Common.{◌+◌, get_or, sym, ap, ◌∙◌, arith}
use Rattle.network.specs.Parts.{no_part}
use Rattle.network.specs.Building.{term_of}
use Rattle.network.proofs.Laid.{nodes_are}
use Rattle.network.proofs.Building.{few_nodes}
use Rattle.network.proofs.build.Builder.nodes_needed.Goals as goal

pub overflow_add-result : goal.overflow_add-result
overflow_add-result c =
    let v = c.in_ok-whole.ensures in
    let e = ap (λ q. get_or q c.in_ok-whole.whole no_part) (sym c.deref.ensures.value) ∙ c.part_at.ensures in
    omega (arith, nodes_are _ _ (term_of v.0) _ e v.2, few_nodes _ v.0 v.1)

pub returns : goal.returns
returns c =
    let v = c.in_ok-whole.ensures in
    let e = ap (λ q. get_or q c.in_ok-whole.whole no_part) (sym c.deref.ensures.value) ∙ c.part_at.ensures in
    (v.0, v.1, ap (λ q. 1 + q) (nodes_are _ _ (term_of v.0) _ e v.2))
