use Rattle.std.proofs.Common.{◌≡◌, ◌<◌, ◌≤◌, ◌⊎◌, length, sym, refl, ap, ◌∙◌, inl, inr, arith}
use Rattle.std.proofs.lemmas.Result.{err_from_is_err_and}
use Rattle.syntax.specs.Scopes.{Names, declare, enter, shut}
use Rattle.syntax.specs.Held.{names_of, binders_of}
use Rattle.syntax.specs.Steps.{binder_at, begun, signed}
use Rattle.syntax.proofs.Lexing.{skipped_twice}
use Rattle.syntax.proofs.ReadSteps.{first_refused, first_full, first_read}
use Rattle.syntax.proofs.Readings.{force_count, shut_kept, read_as, sign_as, name_follows, number_follows, succ_follows, app_follows, pair_follows, iter_follows, function_follows, both_read, let_stopped, let_follows}
use Rattle.syntax.proofs.terms.+after_first_application_body_function_iterator_let_in_pair_successor_term.Goals as goal
use Rattle.syntax.proofs.terms.+after_first_application_body_function_iterator_let_in_pair_successor_term.Goals.{term-then-depth-ge-DEPTH-via-then-depth-ge-DEPTH, term-then-depth-ge-DEPTH-via-else-depth-ge-DEPTH+then-len-depth-ge-SUBTERMS}

pub term-first-requires : goal.term-first-requires
term-first-requires t c = rw c.skip-start.ensures.bytes (sym (skipped_twice c.args.rest.bytes.now))

pub term-returns-in_err-first : goal.term-returns-in_err-first
term-returns-in_err-first t c =
    let P = c.args.program.now in
    let o = rw c.skip-start.ensures.end at c.in_err-first.ensures in
    let q = err_from_is_err_and c.from_residual.result c.from_residual.ensures.1 in
    record { gives = rw (q.1, q.2) (first_refused c.args.rest.end c.args.depth (begun c.args.depth P) (signed P) c.args.rest.bytes.now c.skip-start.result.bytes.now c.skip-start.ensures.bytes _ o); kept = refl }

pub term-returns-then-depth-ge-DEPTH : goal.term-returns-then-depth-ge-DEPTH
term-returns-then-depth-ge-DEPTH t c =
    let d = c.args.depth in
    let P = c.args.program.now in
    let full : (128 ≤ d) ⊎ (2048 ≤ begun d P) = elim c.then-depth-ge-DEPTH.branch [ term-then-depth-ge-DEPTH-via-then-depth-ge-DEPTH w ↦ inl w.if-depth-ge-DEPTH.true | term-then-depth-ge-DEPTH-via-else-depth-ge-DEPTH+then-len-depth-ge-SUBTERMS w ↦ inr (omega (arith, w.len.ensures, w.if-len-depth-ge-SUBTERMS.true, P.subterms.ok.0)) ] in
    let o = rw c.skip-start.ensures.end at c.in_ok-first.ensures in
    let stops = first_full c.args.rest.end d (begun d P) (signed P) c.args.rest.bytes.now c.skip-start.result.bytes.now c.skip-start.ensures.bytes (c.in_ok-first.first, c.in_ok-first.rest) o full in
    record { gives = cc; kept = refl }

pub term-returns : goal.term-returns
term-returns t c =
    let d = c.args.depth in
    let P = c.args.program.now in
    let few : begun d P < 2048 = omega (arith, c.len.ensures, c.if-len-depth-ge-SUBTERMS.false, P.subterms.ok.0) in
    let o = rw c.skip-start.ensures.end at c.in_ok-first.ensures in
    let place = rw c.skip-start.ensures.end at c.place-place.ensures in
    let reads = first_read c.args.rest.end d (begun d P) (signed P) c.args.rest.bytes.now c.skip-start.result.bytes.now c.skip-start.ensures.bytes (c.in_ok-first.first, c.in_ok-first.rest) o c.place-place.result c.if-depth-ge-DEPTH.false few place in
    read_as reads (rw o.1 at c.after_first.ensures)

pub after_first-returns-in-Name : goal.after_first-returns-in-Name
after_first-returns-in-Name t c =
    sign_as c.args.at c.args.rest c.in-Name.is (name_follows c.args.at c.args.rest c.requires c.in-Name.word c.occur-binder.ensures.names c.occur-binder.ensures.binder c.put.ensures)

pub after_first-returns-in-Number : goal.after_first-returns-in-Number
after_first-returns-in-Number t c =
    sign_as c.args.at c.args.rest c.in-Number.is (number_follows c.args.at c.args.rest c.requires c.in-Number.number c.put-in-Number.ensures)

pub successor-returns : goal.successor-returns
successor-returns t c = succ_follows c.args.at c.args.rest c.in_ok-body.ensures c.put.ensures

pub application-returns : goal.application-returns
application-returns t c =
    let x = c.in_ok-function.ensures in
    let y = rw x.gives.3 at c.in_ok-argument.ensures in
    let z = rw y.gives.3 at c.in_ok-rest.ensures in
    app_follows c.args.at c.args.rest x c.in_ok-rest.rest y z c.put.ensures

pub pair-returns : goal.pair-returns
pair-returns t c =
    let x = c.in_ok-first.ensures in
    let w = rw x.gives.3 at c.in_ok-rest.ensures in
    let y = rw w.1 at c.in_ok-second.ensures in
    let z = rw y.gives.3 at c.in_ok-rest-2.ensures in
    pair_follows c.args.at c.args.rest x c.in_ok-rest.rest c.in_ok-rest-2.rest w y z c.put.ensures

pub iterator-returns : goal.iterator-returns
iterator-returns t c =
    let x = c.in_ok-count.ensures in
    let y = rw x.gives.3 at c.in_ok-step.ensures in
    let z = rw y.gives.3 at c.in_ok-base.ensures in
    iter_follows c.args.at c.args.rest x y z c.put.ensures

pub body-returns-in_err-body : goal.body-returns-in_err-body
body-returns-in_err-body t c =
    let q = err_from_is_err_and c.from_residual.result c.from_residual.ensures.1 in
    rw (q.1, q.2) (record { gives = c.in_err-body.ensures.gives; kept = ap (λ (n : Names). binders_of n.force) c.drop-guard.ensures ∙ shut_kept c.args.before (names_of c.term.new.scope) c.args.scope.now c.term.ensures.kept })

pub body-returns : goal.body-returns
body-returns t c =
    let x = c.in_ok-body.ensures.gives in
    let late = names_of c.term.new.scope in
    let left = c.drop-guard-2.ensures ∙ ap (shut c.args.before) c.settle.ensures in
    record {
      gives = (x.0, x.1, record { late = late; held = x.2; left = left }, x.3);
      kept = ap (λ (n : Names). binders_of n.force) left ∙ shut_kept c.args.before late c.args.scope.now c.term.ensures.kept;
    }

pub function-returns : goal.function-returns
function-returns t c =
    let f = binder_at c.in_ok-head.head.binder in
    let S = c.args.scope.now in
    let x = c.in_ok-head.ensures in
    let high : c.len-before.result ≡ length (names_of S).force = omega (arith, c.len-before.ensures, S.in_force.ok.0, force_count S) in
    function_follows c.args.at c.args.rest c.args.program.now _ S c.enter.new.self c.len-before.result c.in_ok-head.head c.in_ok-head.rest (c.enter.ensures ∙ ap (enter f) c.declare.ensures) high x (rw x.3 at c.in_ok-body.ensures) c.put.ensures

pub let_in-returns-in_err-body : goal.let_in-returns-in_err-body
let_in-returns-in_err-body t c =
    let f = binder_at c.in_ok-first.first in
    let g = binder_at c.in_ok-first.second in
    let w = c.in_ok-first.ensures in
    let x = rw w.3 at c.in_ok-pair.ensures in
    let z = rw x.gives.3 at c.in_ok-rest.ensures in
    let S₃ = c.term.new.scope in
    let high : c.len-before.result ≡ length (names_of S₃).force = omega (arith, c.len-before.ensures, S₃.in_force.ok.0, force_count S₃) in
    let q = err_from_is_err_and c.from_residual-in_err-body.result c.from_residual-in_err-body.ensures.1 in
    rw (q.1, q.2) (let_stopped c.args.at c.args.rest c.args.program.now c.args.scope.now c.declare-2.new.self f g (c.declare-2.ensures ∙ ap (declare g) c.declare.ensures) c.in_ok-first.rest.bytes.now x c.enter-2.new.self (c.enter-2.ensures ∙ ap (enter g) c.enter.ensures) c.len-before.result c.in_ok-rest.rest high (both_read w.1 w.2.0.is w.2.1.is) z (rw z.1 at c.in_err-body.ensures))

pub let_in-returns : goal.let_in-returns
let_in-returns t c =
    let f = binder_at c.in_ok-first.first in
    let g = binder_at c.in_ok-first.second in
    let w = c.in_ok-first.ensures in
    let x = rw w.3 at c.in_ok-pair.ensures in
    let z = rw x.gives.3 at c.in_ok-rest.ensures in
    let S₃ = c.term.new.scope in
    let high : c.len-before.result ≡ length (names_of S₃).force = omega (arith, c.len-before.ensures, S₃.in_force.ok.0, force_count S₃) in
    let_follows c.args.at c.args.rest c.args.program.now c.args.scope.now c.declare-2.new.self f g (c.declare-2.ensures ∙ ap (declare g) c.declare.ensures) c.in_ok-first.rest.bytes.now x c.enter-2.new.self (c.enter-2.ensures ∙ ap (enter g) c.enter.ensures) c.len-before.result c.in_ok-rest.rest high (both_read w.1 w.2.0.is w.2.1.is) z (rw z.1 at c.in_ok-body.ensures) c.put.ensures
