use Rattle.std.proofs.Common.{length, sym, refl, ap, ◌∙◌, append-nil, arith, length-append, rules}
use Rattle.calculus.specs.Types.{◌⊗◌}
use Rattle.syntax.specs.declared.program.Shape.TheVariants.{Variable}
use Rattle.syntax.specs.declared.program.Subterm.{Subterm}
use Rattle.language.proofs.Walk.{inside_of, asks_type, asks_room, failed, judged}
use Rattle.language.proofs.Steps.{both_bound, met, ready_as, met_as, var_done, num_done, succ_ready, succ_stop, succ_asks, succ_done, application, pair_of, product_cell, two_ready, two_stop, two_next, two_stop', two_asks, two_done, iter_ready, iter_stop, iter_next, iter_stop', iter_next', iter_stop'', iter_asks, iter_done, lam_less, lam_space, lam_ready, lam_stop, lam_room, lam_done, let_less, let_ready, let_stop, let_asks, let_stop', let_space, let_next, let_stop'', let_done}
use Rattle.language.proofs.checker.Checker.+check_infer.Goals as goal

-- the default that a read in the code has
abbrev unread : Subterm
unread = record { place = 0; shape = Variable 0 }

pub check-offset_bounds-subs-i : goal.check-offset_bounds-subs-i
check-offset_bounds-subs-i t c = let h = inside_of c.requires in search rules

pub check-bounds-subs-i : goal.check-bounds-subs-i
check-bounds-subs-i t c = inside_of c.requires

pub check-judge-requires : goal.check-judge-requires
check-judge-requires t c = record { typed = asks_type c.requires c.in_ok-cell.ensures; room = asks_room c.requires c.in_ok-cell.ensures }

pub check-returns : goal.check-returns
check-returns t c = judged unread c.requires c.in_ok-cell.ensures c.judge.ensures.agrees c.judge.ensures.noted

pub infer-offset_bounds-subs-i : goal.infer-offset_bounds-subs-i
infer-offset_bounds-subs-i t c = let h = inside_of c.requires in search rules

pub infer-bounds-subs-i : goal.infer-bounds-subs-i
infer-bounds-subs-i t c = inside_of c.requires

pub infer-returns-in-Variable : goal.infer-returns-in-Variable
infer-returns-in-Variable t c = var_done _ (met unread c.requires c.in-Variable.is) (c.unwrap_or.ensures ∙ c.cell_of.ensures c.args.self.now.number)

pub infer-returns-in-Number : goal.infer-returns-in-Number
infer-returns-in-Number t c = num_done (met unread c.requires c.in-Number.is)

pub infer-infer_successor-requires : goal.infer-infer_successor-requires
infer-infer_successor-requires t c = (omega arith, ready_as unread c.requires c.in-Successor.is)

pub infer-infer_function-requires : goal.infer-infer_function-requires
infer-infer_function-requires t c = (omega arith, ready_as unread c.requires c.in-Function.is)

pub infer-infer_application-requires : goal.infer-infer_application-requires
infer-infer_application-requires t c = (omega arith, ready_as unread c.requires c.in-Application.is)

pub infer-infer_pair-requires : goal.infer-infer_pair-requires
infer-infer_pair-requires t c = (omega arith, ready_as unread c.requires c.in-Pair.is)

pub infer-infer_let-requires : goal.infer-infer_let-requires
infer-infer_let-requires t c = (omega arith, ready_as unread c.requires c.in-Let.is)

pub infer-infer_iterator-requires : goal.infer-infer_iterator-requires
infer-infer_iterator-requires t c = (omega arith, ready_as unread c.requires c.in-Iterator.is)

pub infer_successor-check-requires : goal.infer_successor-check-requires
infer_successor-check-requires t c = let q = succ_ready (met_as unread c.requires) in (omega (arith, q.0), q.1)

pub infer_successor-returns-in_err-part : goal.infer_successor-returns-in_err-part
infer_successor-returns-in_err-part t c = failed c.from_residual.ensures.1 (succ_stop (met_as unread c.requires) c.in_err-part.ensures)

pub infer_successor-successor-requires : goal.infer_successor-successor-requires
infer_successor-successor-requires t c = succ_asks (met_as unread c.requires) c.in_ok-part.ensures

pub infer_successor-offset_bounds-subs-i : goal.infer_successor-offset_bounds-subs-i
infer_successor-offset_bounds-subs-i t c = let h = inside_of c.requires.ready in search rules

pub infer_successor-bounds-subs-i : goal.infer_successor-bounds-subs-i
infer_successor-bounds-subs-i t c = inside_of c.requires.ready

pub infer_successor-returns : goal.infer_successor-returns
infer_successor-returns t c = succ_done (met_as unread c.requires) c.in_ok-part.ensures c.successor.ensures

pub infer_function-bind-requires : goal.infer_function-bind-requires
infer_function-bind-requires t c = lam_space (met_as unread c.requires)

pub infer_function-check-requires : goal.infer_function-check-requires
infer_function-check-requires t c = (omega (arith, lam_less (met_as unread c.requires)), lam_ready (met_as unread c.requires) (record { types = refl; typings = refl; context = c.bind.ensures; number = refl }))

pub infer_function-returns-in_err-result : goal.infer_function-returns-in_err-result
infer_function-returns-in_err-result t c = failed c.from_residual.ensures.1 (lam_stop (met_as unread c.requires) c.in_err-result.ensures (record { types = refl; typings = refl; context = c.bind.ensures; number = refl }))

pub infer_function-add-requires : goal.infer_function-add-requires
infer_function-add-requires t c = lam_room (met_as unread c.requires) c.in_ok-result.ensures (record { types = refl; typings = refl; context = c.bind.ensures; number = refl })

pub infer_function-returns : goal.infer_function-returns
infer_function-returns t c = lam_done (met_as unread c.requires) c.in_ok-result.ensures (record { types = refl; typings = refl; context = c.bind.ensures; number = refl }) c.len-before.ensures c.add.ensures.place (record { cells = c.add.ensures.cells; typings = refl; context = c.release.ensures; number = refl })

pub infer_application-check-requires : goal.infer_application-check-requires
infer_application-check-requires t c = let q = two_ready (application (met_as unread c.requires)) in (omega (arith, q.0), q.1)

pub infer_application-returns-in_err-function : goal.infer_application-returns-in_err-function
infer_application-returns-in_err-function t c = failed c.from_residual.ensures.1 (two_stop (application (met_as unread c.requires)) c.in_err-function.ensures)

pub infer_application-check-requires-2 : goal.infer_application-check-requires-2
infer_application-check-requires-2 t c = let q = two_next (application (met_as unread c.requires)) c.in_ok-function.ensures in (omega (arith, q.0), q.1)

pub infer_application-returns-in_err-argument : goal.infer_application-returns-in_err-argument
infer_application-returns-in_err-argument t c = failed c.from_residual-in_err-argument.ensures.1 (two_stop' (application (met_as unread c.requires)) c.in_ok-function.ensures c.in_err-argument.ensures)

pub infer_application-application-requires : goal.infer_application-application-requires
infer_application-application-requires t c = let q = two_asks (application (met_as unread c.requires)) c.in_ok-function.ensures c.in_ok-argument.ensures in record { function = q.left; argument = q.right }

pub infer_application-offset_bounds-subs-i : goal.infer_application-offset_bounds-subs-i
infer_application-offset_bounds-subs-i t c = let h = inside_of c.requires.ready in search rules

pub infer_application-bounds-subs-i : goal.infer_application-bounds-subs-i
infer_application-bounds-subs-i t c = inside_of c.requires.ready

pub infer_application-returns : goal.infer_application-returns
infer_application-returns t c = two_done (application (met_as unread c.requires)) c.in_ok-function.ensures c.in_ok-argument.ensures (record { cells = sym (append-nil _); typings = refl; context = refl; number = refl }) (omega arith) c.application.ensures

pub infer_pair-check-requires : goal.infer_pair-check-requires
infer_pair-check-requires t c = let q = two_ready (pair_of (met_as unread c.requires)) in (omega (arith, q.0), q.1)

pub infer_pair-returns-in_err-first : goal.infer_pair-returns-in_err-first
infer_pair-returns-in_err-first t c = failed c.from_residual.ensures.1 (two_stop (pair_of (met_as unread c.requires)) c.in_err-first.ensures)

pub infer_pair-check-requires-2 : goal.infer_pair-check-requires-2
infer_pair-check-requires-2 t c = let q = two_next (pair_of (met_as unread c.requires)) c.in_ok-first.ensures in (omega (arith, q.0), q.1)

pub infer_pair-returns-in_err-second : goal.infer_pair-returns-in_err-second
infer_pair-returns-in_err-second t c = failed c.from_residual-in_err-second.ensures.1 (two_stop' (pair_of (met_as unread c.requires)) c.in_ok-first.ensures c.in_err-second.ensures)

pub infer_pair-add-requires : goal.infer_pair-add-requires
infer_pair-add-requires t c = (two_asks (pair_of (met_as unread c.requires)) c.in_ok-first.ensures c.in_ok-second.ensures).cell

pub infer_pair-returns : goal.infer_pair-returns
infer_pair-returns t c = two_done (pair_of (met_as unread c.requires)) c.in_ok-first.ensures c.in_ok-second.ensures (record { cells = c.add.ensures.cells; typings = refl; context = refl; number = refl }) (omega arith) (λ A B d f. (A ⊗ B, product_cell _ _ _ _ _ A B c.add.ensures.cells c.add.ensures.place d f, refl))

pub infer_let-check-requires : goal.infer_let-check-requires
infer_let-check-requires t c = let q = let_ready (met_as unread c.requires) in (omega (arith, q.0), q.1)

pub infer_let-returns-in_err-pair : goal.infer_let-returns-in_err-pair
infer_let-returns-in_err-pair t c = failed c.from_residual.ensures.1 (let_stop (met_as unread c.requires) c.in_err-pair.ensures)

pub infer_let-components-requires : goal.infer_let-components-requires
infer_let-components-requires t c = let_asks (met_as unread c.requires) c.in_ok-pair.ensures

pub infer_let-returns-in_err-left : goal.infer_let-returns-in_err-left
infer_let-returns-in_err-left t c = failed c.from_residual-in_err-left.ensures.1 (let_stop' (met_as unread c.requires) c.in_ok-pair.ensures c.in_err-left.ensures)

pub infer_let-bind-requires : goal.infer_let-bind-requires
infer_let-bind-requires t c = omega (arith, let_space (met_as unread c.requires) c.in_ok-pair.ensures)

pub infer_let-bind-requires-2 : goal.infer_let-bind-requires-2
infer_let-bind-requires-2 t c = omega (arith, let_space (met_as unread c.requires) c.in_ok-pair.ensures, simp length-append at (ap length c.bind.ensures))

pub infer_let-check-requires-2 : goal.infer_let-check-requires-2
infer_let-check-requires-2 t c = (omega (arith, let_less (met_as unread c.requires)), let_next (met_as unread c.requires) c.in_ok-pair.ensures c.in_ok-left.ensures (record { types = refl; typings = refl; context = both_bound _ _ _ _ _ c.bind.ensures c.bind-2.ensures; number = refl }))

pub infer_let-returns-in_err-cell : goal.infer_let-returns-in_err-cell
infer_let-returns-in_err-cell t c = failed c.from_residual-in_err-cell.ensures.1 (let_stop'' (met_as unread c.requires) c.in_ok-pair.ensures c.in_ok-left.ensures c.in_err-cell.ensures (record { types = refl; typings = refl; context = both_bound _ _ _ _ _ c.bind.ensures c.bind-2.ensures; number = refl }))

pub infer_let-offset_bounds-subs-i : goal.infer_let-offset_bounds-subs-i
infer_let-offset_bounds-subs-i t c = let h = inside_of c.requires.ready in search rules

pub infer_let-bounds-subs-i : goal.infer_let-bounds-subs-i
infer_let-bounds-subs-i t c = inside_of c.requires.ready

pub infer_let-returns : goal.infer_let-returns
infer_let-returns t c = let_done (met_as unread c.requires) c.in_ok-pair.ensures c.in_ok-left.ensures c.in_ok-cell.ensures (record { types = refl; typings = refl; context = both_bound _ _ _ _ _ c.bind.ensures c.bind-2.ensures; number = refl }) c.len-before.ensures (record { cells = sym (append-nil _); typings = refl; context = c.release.ensures; number = refl })

pub infer_iterator-check-requires : goal.infer_iterator-check-requires
infer_iterator-check-requires t c = let q = iter_ready (met_as unread c.requires) in (omega (arith, q.0), q.1)

pub infer_iterator-returns-in_err-count : goal.infer_iterator-returns-in_err-count
infer_iterator-returns-in_err-count t c = failed c.from_residual.ensures.1 (iter_stop (met_as unread c.requires) c.in_err-count.ensures)

pub infer_iterator-check-requires-2 : goal.infer_iterator-check-requires-2
infer_iterator-check-requires-2 t c = let q = iter_next (met_as unread c.requires) c.in_ok-count.ensures in (omega (arith, q.0), q.1)

pub infer_iterator-returns-in_err-step : goal.infer_iterator-returns-in_err-step
infer_iterator-returns-in_err-step t c = failed c.from_residual-in_err-step.ensures.1 (iter_stop' (met_as unread c.requires) c.in_ok-count.ensures c.in_err-step.ensures)

pub infer_iterator-check-requires-3 : goal.infer_iterator-check-requires-3
infer_iterator-check-requires-3 t c = let q = iter_next' (met_as unread c.requires) c.in_ok-count.ensures c.in_ok-step.ensures in (omega (arith, q.0), q.1)

pub infer_iterator-returns-in_err-base : goal.infer_iterator-returns-in_err-base
infer_iterator-returns-in_err-base t c = failed c.from_residual-in_err-base.ensures.1 (iter_stop'' (met_as unread c.requires) c.in_ok-count.ensures c.in_ok-step.ensures c.in_err-base.ensures)

pub infer_iterator-iterator-requires : goal.infer_iterator-iterator-requires
infer_iterator-iterator-requires t c = let q = iter_asks (met_as unread c.requires) c.in_ok-count.ensures c.in_ok-step.ensures c.in_ok-base.ensures in record { count = q.count; step = q.step; base = q.base }

pub infer_iterator-offset_bounds-subs-i : goal.infer_iterator-offset_bounds-subs-i
infer_iterator-offset_bounds-subs-i t c = let h = inside_of c.requires.ready in search rules

pub infer_iterator-bounds-subs-i : goal.infer_iterator-bounds-subs-i
infer_iterator-bounds-subs-i t c = inside_of c.requires.ready

pub infer_iterator-returns : goal.infer_iterator-returns
infer_iterator-returns t c = iter_done (met_as unread c.requires) c.in_ok-count.ensures c.in_ok-step.ensures c.in_ok-base.ensures c.iterator.ensures
