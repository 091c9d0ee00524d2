use Rattle.std.proofs.Common.{◌≡◌, ◌/◌, eqb, Some, sym, refl, ap, ◌∙◌, arith}
use Rattle.std.specs.Option.{option_eq}
use Rattle.std.proofs.lemmas.Result.{err_from_is_err_and}
use Rattle.cells.specs.Ports.{nodes_of, port_at, end}
use Rattle.token_machine.proofs.Stepping.{port_is, end_is, way_is, no_way}
use Rattle.token_machine.proofs.tokens.Token.find_exit.Goals as goal

pub returns-in_err-link : goal.returns-in_err-link
returns-in_err-link c =
    let ns = nodes_of c.args.self.now.cells.now in
    let e = port_is c.at-exit.result (c.args.self.now.to / 3) c.args.place (omega arith) c.at-exit.ensures in
    let p = err_from_is_err_and c.from_residual.result c.from_residual.ensures.1 in
    rw (p.1, p.2) (no_way ns _ c.link_of.result _ (c.link_of.ensures ∙ ap (end ns) e) c.in_err-link.ensures.value)

pub returns-then-eq : goal.returns-then-eq
returns-then-eq c =
    let ns = nodes_of c.args.self.now.cells.now in
    let e = port_is c.at-exit.result (c.args.self.now.to / 3) c.args.place (omega arith) c.at-exit.ensures in
    let first = sym c.in_ok-link.ensures.ok_part ∙ c.link_of.ensures ∙ ap (end ns) e in
    let back : c.eq.result ≡ option_eq eqb (end ns c.in_ok-link.link) (Some (port_at (c.args.self.now.to / 3) c.args.place)) = cc in
    (e, end_is ns _ _ first, sym (way_is ns _ _ first) ∙ sym back ∙ c.if-eq.true)

pub returns-else-eq : goal.returns-else-eq
returns-else-eq c =
    let ns = nodes_of c.args.self.now.cells.now in
    let e = port_is c.at-exit.result (c.args.self.now.to / 3) c.args.place (omega arith) c.at-exit.ensures in
    let first = sym c.in_ok-link.ensures.ok_part ∙ c.link_of.ensures ∙ ap (end ns) e in
    let back : c.eq.result ≡ option_eq eqb (end ns c.in_ok-link.link) (Some (port_at (c.args.self.now.to / 3) c.args.place)) = cc in
    (refl, sym (way_is ns _ _ first) ∙ sym back ∙ c.if-eq.false)
