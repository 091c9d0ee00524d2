use Rattle.std.proofs.Common.{◌+◌, max, vec_items, sym, refl, ap, ◌∙◌, subst, arith, rules, take_all}
use Rattle.syntax.specs.declared.program.Shape.TheVariants.{Variable}
use Rattle.language.specs.Counts.{share_at, Counts}
use Rattle.language.proofs.Tally.{tally, same_facts, tallied, turn}
use Rattle.language.proofs.facts.facts.Goals as goal

pub offset_bounds-subs-typing : goal.offset_bounds-subs-typing
offset_bounds-subs-typing c = let h = (turn c.args.types.now _ _ (record { place = 0; shape = Variable 0 }) c.requires c.loop-typing.invariant c.loop-typing-test.true).there in search rules

pub bounds-subs-typing : goal.bounds-subs-typing
bounds-subs-typing c = (turn c.args.types.now _ _ (record { place = 0; shape = Variable 0 }) c.requires c.loop-typing.invariant c.loop-typing-test.true).there

pub overflow_add-facts : goal.overflow_add-facts
overflow_add-facts c = omega (arith, (turn c.args.types.now _ _ (record { place = 0; shape = Variable 0 }) c.requires c.loop-typing.invariant c.loop-typing-test.true).subterms)

pub overflow_add-facts-in-loop-typing : goal.overflow_add-facts-in-loop-typing
overflow_add-facts-in-loop-typing c = omega (arith, (turn c.args.types.now _ _ (record { place = 0; shape = Variable 0 }) c.requires c.loop-typing.invariant c.loop-typing-test.true).iterators, ap (λ p. p.0) c.added-iterators.ensures)

pub overflow_add-facts-in-loop-typing-2 : goal.overflow_add-facts-in-loop-typing-2
overflow_add-facts-in-loop-typing-2 c = omega (arith, (turn c.args.types.now _ _ (record { place = 0; shape = Variable 0 }) c.requires c.loop-typing.invariant c.loop-typing-test.true).successors, ap (λ p. p.1) c.added-iterators.ensures)

pub overflow_add-facts-in-loop-typing-3 : goal.overflow_add-facts-in-loop-typing-3
overflow_add-facts-in-loop-typing-3 c = omega (arith, (turn c.args.types.now _ _ (record { place = 0; shape = Variable 0 }) c.requires c.loop-typing.invariant c.loop-typing-test.true).weight, ap (λ p. p.2) c.added-iterators.ensures ∙ ap (share_at _) c.measure-measure.ensures)

pub loop-typing-preserved : goal.loop-typing-preserved
loop-typing-preserved c =
    let f = c.loop-typing.facts in
    same_facts c.args.subs.now (vec_items c.args.types.now.measures) _ _ refl (ap (λ p. f.iterators + p.0) c.added-iterators.ensures) (ap (λ p. f.successors + p.1) c.added-iterators.ensures) (c.max.ensures ∙ ap (λ m. max f.height m.height) c.measure-measure.ensures) (ap (λ n. f.weight + n) (ap (λ p. p.2) c.added-iterators.ensures ∙ ap (share_at _) c.measure-measure.ensures)) ∙ (turn c.args.types.now _ _ (record { place = 0; shape = Variable 0 }) c.requires c.loop-typing.invariant c.loop-typing-test.true).next

pub returns : goal.returns
returns c = λ js h l.
    subst (Counts js) (sym (c.loop-typing.invariant ∙ ap (tally c.args.subs.now (vec_items c.args.types.now.measures)) (take_all _ _ c.loop-typing-test.false))) (tallied c.args.subs.now (vec_items c.args.types.now.measures) (vec_items c.args.types.now.cells) c.args.types.now.heights c.args.types.now.counts c.args.typings.now js h l)
