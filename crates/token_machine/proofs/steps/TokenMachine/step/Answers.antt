use Rattle.std.proofs.Common.{◌≤◌, sym, refl, ap, ◌∙◌, arith, rules}
use Rattle.std.proofs.lemmas.Result.{err_from_is_err_and}
use Rattle.cells.specs.Ports.{nodes_of}
use Rattle.machine.specs.Steps.{to, ends}
use Rattle.token_machine.specs.Tokens.{state_of}
use Rattle.token_machine.proofs.Stepping.{no_home, no_link, goes_on, no_room, no_exit, goes_out, token_within, below_absent, landed}
use Rattle.token_machine.proofs.steps.TokenMachine.step.Goals as goal

pub returns-then-self-eq0 : goal.returns-then-self-eq0
returns-then-self-eq0 c = (no_home (state_of c.args.self.now) c.if-self-eq0.true, refl)

pub returns-then-not-are_linked : goal.returns-then-not-are_linked
returns-then-not-are_linked c = (no_link (state_of c.args.self.now) c.if-self-eq0.false (sym c.if-not-are_linked.ensures), refl)

pub returns-in_err-value : goal.returns-in_err-value
returns-in_err-value c =
    let s = state_of c.args.self.now in
    let p = err_from_is_err_and c.from_residual.result c.from_residual.ensures.1 in
    rw (p.1, p.2) (goes_on s c.if-self-eq0.false (sym c.if-not-are_linked.ensures) ∙ c.in_err-value.ensures, refl)

pub returns-in_err-ask_room : goal.returns-in_err-ask_room
returns-in_err-ask_room c =
    let t = c.args.self.now in
    let s = state_of t in
    let v = c.in_ok-value.value in
    let p = err_from_is_err_and c.from_residual-in_err-ask_room.result c.from_residual-in_err-ask_room.ensures.1 in
    let e = c.in_err-ask_room.ensures in
    rw (p.1, p.2) (
      goes_on s c.if-self-eq0.false (sym c.if-not-are_linked.ensures)
          ∙ no_room s v c.in_ok-value.passage c.in_ok-value.ensures (token_within t v) e.1
          ∙ ap ends (sym e.0),
      refl,
    )

pub find_exit-requires : goal.find_exit-requires
find_exit-requires c =
    let t = c.args.self.now in
    let other = below_absent (nodes_of t.cells.now) t.from t.to (sym c.if-not-are_linked.ensures) in
    let most : t.to ≤ 4294967295 = search rules in
    omega arith

pub returns-in_err-exit : goal.returns-in_err-exit
returns-in_err-exit c =
    let t = c.args.self.now in
    let s = state_of t in
    let v = c.in_ok-value.value in
    let p = err_from_is_err_and c.from_residual-in_err-exit.result c.from_residual-in_err-exit.ensures.1 in
    let e = c.in_err-exit.ensures in
    rw (p.1, p.2) (
      goes_on s c.if-self-eq0.false (sym c.if-not-are_linked.ensures)
          ∙ no_exit s v c.in_ok-value.passage c.in_ok-value.ensures (token_within t v) c.in_ok-ask_room.ensures e.1
          ∙ ap ends (sym e.0),
      refl,
    )

pub returns : goal.returns
returns c =
    let t = c.args.self.now in
    let s = state_of t in
    let v = c.in_ok-value.value in
    let m = c.in_ok-value.passage in
    let e = c.in_ok-exit.ensures in
    goes_on s c.if-self-eq0.false (sym c.if-not-are_linked.ensures)
    ∙ goes_out s v m c.in_ok-value.ensures (token_within t v) c.in_ok-ask_room.ensures e.2
    ∙ ap to (landed s (state_of c.pass.new.self) v m _ _ c.in_ok-pass.ensures e.0 e.1)
