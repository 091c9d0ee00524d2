use Rattle.std.proofs.Common.{◌≡◌, ◌≤◌, Ok, Err, sym, ap, ◌∙◌, subst, rules, tests}
use Rattle.std.proofs.lemmas.Result.{err_from_is_err_and}
use Rattle.cells.specs.Ports.{place_of}
use Rattle.machine.specs.declared.reasons.Reason.TheVariants.{NoRow}
use Rattle.machine.specs.Steps.{ends}
use Rattle.stack.proofs.Shelved.{shelves-length}
use Rattle.token.specs.Next.{largest}
use Rattle.token_machine.specs.Passages.{through}
use Rattle.token_machine.specs.Passing.{tops_of}
use Rattle.token_machine.specs.Tokens.{state_of, stacks_of}
use Rattle.token_machine.proofs.Deciding.{Decided, decided}
use Rattle.token_machine.proofs.Stepping.{no_cell, no_name, arrives, passes, ended, token_within}
use Rattle.token_machine.proofs.tokens.Token.find_passage.Goals as goal

pub returns-in_err-cell : goal.returns-in_err-cell
returns-in_err-cell c =
    let p = err_from_is_err_and c.from_residual.result c.from_residual.ensures.1 in
    rw (p.1, p.2) (no_cell (state_of c.args.self.now) c.cell_of.result c.in_err-cell.field-0.0 c.cell_of.ensures c.in_err-cell.ensures.value)

pub returns-in_err-kind : goal.returns-in_err-kind
returns-in_err-kind c =
    let p = err_from_is_err_and c.from_residual-in_err-kind.result c.from_residual-in_err-kind.ensures.1 in
    let w : c.in_err-kind.field-0.0 ≡ NoRow = search (rules, tests) in
    rw (p.1, p.2) (
    no_name (state_of c.args.self.now) c.cell_of.result c.in_ok-cell.cell c.try_from.result c.cell_of.ensures c.in_ok-cell.ensures.ok_part c.try_from.ensures c.in_err-kind.ensures.variant
    ∙ ap ends (sym w))

pub returns-in_err-passage : goal.returns-in_err-passage
returns-in_err-passage c =
    let t = c.args.self.now in
    let s = state_of t in
    let k = c.in_ok-kind.kind in
    let v = c.in_ok-cell.cell.value in
    let p = err_from_is_err_and c.from_residual-in_err-passage.result c.from_residual-in_err-passage.ensures.1 in
    let named : c.try_from.result ≡ Ok k = search (rules, tests) in
    let a = arrives s c.cell_of.result c.in_ok-cell.cell c.try_from.result k c.if-self-eq0.false c.cell_of.ensures c.in_ok-cell.ensures.ok_part c.try_from.ensures named in
    let e : through k v (place_of t.to) (tops_of v (stacks_of t)) ≡ Err c.in_err-passage.field-0.0 =
    ap (λ o. through k v o (tops_of v (stacks_of t))) (sym c.of.ensures)
    ∙ sym c.pass_through.ensures ∙ c.in_err-passage.was in
    let d = subst (Decided k (place_of t.to) v (stacks_of t)) e (decided k (place_of t.to) v (stacks_of t) (shelves-length t.shelves)) in
    rw (p.1, p.2) (ended s k v c.in_err-passage.field-0.0 a (token_within t v) d)

pub returns : goal.returns
returns c =
    let t = c.args.self.now in
    let s = state_of t in
    let k = c.in_ok-kind.kind in
    let v = c.in_ok-cell.cell.value in
    let m = c.in_ok-passage.passage in
    let named : c.try_from.result ≡ Ok k = search (rules, tests) in
    let a = arrives s c.cell_of.result c.in_ok-cell.cell c.try_from.result k c.if-self-eq0.false c.cell_of.ensures c.in_ok-cell.ensures.ok_part c.try_from.ensures named in
    let e : through k v (place_of t.to) (tops_of v (stacks_of t)) ≡ Ok m =
    ap (λ o. through k v o (tops_of v (stacks_of t))) (sym c.of.ensures)
    ∙ sym c.pass_through.ensures ∙ c.in_ok-passage.was in
    let d = subst (Decided k (place_of t.to) v (stacks_of t)) e (decided k (place_of t.to) v (stacks_of t) (shelves-length t.shelves)) in
    let most : v ≤ largest = search rules in
    passes s k v m a c.tops_fit.ensures most d
