use Rattle.std.proofs.Common.{◌+◌, ◌≤◌, length, get_or, sym, refl, ap, ◌∙◌, arith}
use Rattle.std.proofs.lemmas.Result.{err_from_is_err_and}
use Rattle.calculus.specs.Terms.{nodes}
use Rattle.network.specs.Parts.{no_part}
use Rattle.network.specs.Building.{term_of, rejected, few_cells}
use Rattle.network.proofs.Laid.{nodes_are}
use Rattle.network.proofs.Building.{few_nodes, drawable, stored, trusted}
use Rattle.network.proofs.build.Builder.build.Goals as goal

pub returns-in_err-whole : goal.returns-in_err-whole
returns-in_err-whole c =
    let p = err_from_is_err_and c.from_residual.result c.from_residual.ensures.1 in
    rw (p.1, p.2) (rejected c.in_err-whole.ensures, refl)

pub overflow_add-nodes : goal.overflow_add-nodes
overflow_add-nodes c =
    let v = c.in_ok-whole.ensures in
    let e = ap (λ q. get_or q c.in_ok-whole.whole no_part) (sym c.deref.ensures.value) ∙ c.part_at-nodes.ensures in
    omega (arith, nodes_are _ _ (term_of v.0) _ e v.2, few_nodes _ v.0 v.1)

pub returns-then-nodes-cells : goal.returns-then-nodes-cells
returns-then-nodes-cells c =
    let v = c.in_ok-whole.ensures in
    let e = ap (λ q. get_or q c.in_ok-whole.whole no_part) (sym c.deref.ensures.value) ∙ c.part_at-nodes.ensures in
    (few_cells v.0 v.1 (omega (arith, c.if-nodes-cells.true, nodes_are _ _ (term_of v.0) _ e v.2)), refl)

pub draw-requires : goal.draw-requires
draw-requires c =
    let v = c.in_ok-whole.ensures in
    let e = ap (λ q. get_or q c.in_ok-whole.whole no_part) (sym c.deref.ensures.value) ∙ c.part_at-nodes.ensures in
    let r : 1 + nodes (term_of v.0) ≤ length c.args.cells.now = omega (arith, c.if-nodes-cells.false, nodes_are _ _ (term_of v.0) _ e v.2) in
    (term_of v.0, drawable _ v.0 v.1 _ _ _ _ v.2 refl r)

pub returns : goal.returns
returns c =
    let v = c.in_ok-whole.ensures in
    let t = term_of v.0 in
    let e = ap (λ q. get_or q c.in_ok-whole.whole no_part) (sym c.deref.ensures.value) ∙ c.part_at-nodes.ensures in
    let n = nodes_are _ _ t _ e v.2 in
    let r : 1 + nodes t ≤ length c.args.cells.now = omega (arith, c.if-nodes-cells.false, n) in
    let d = c.draw.ensures t (drawable _ v.0 v.1 _ _ _ _ v.2 refl r) in
    let s = stored _ v.0 v.1 _ _ _ (ap (λ q. 1 + q) n) c.if-nodes-cells.false d in
    (v.0, v.1, s, trusted _ v.0 v.1 _ _ _ s)
