use Rattle.std.proofs.Common.{eqb, Some, sym, ap, ◌∙◌}
use Rattle.std.specs.Option.{option_eq}
use Rattle.cells.specs.Ports.{nodes_of}
use Rattle.cells.proofs.Nodes.{linked_first, unlinked_first}
use Rattle.cells.proofs.links.are_linked.Goals as goal

pub returns-then-eq : goal.returns-then-eq
returns-then-eq c =
    c.eq-then-eq.ensures
    ∙ ap (λ o. option_eq eqb o (Some c.args.a)) c.link_of-then-eq.ensures
    ∙ linked_first (nodes_of c.args.cells.now) c.args.a c.args.b (ap (λ o. option_eq eqb o (Some c.args.b)) (sym c.link_of.ensures) ∙ sym c.eq.ensures ∙ c.if-eq.true)

pub returns-else-eq : goal.returns-else-eq
returns-else-eq c =
    c.if-eq.false
    ∙ unlinked_first (nodes_of c.args.cells.now) c.args.a c.args.b (ap (λ o. option_eq eqb o (Some c.args.b)) (sym c.link_of.ensures) ∙ sym c.eq.ensures ∙ c.if-eq.false)
