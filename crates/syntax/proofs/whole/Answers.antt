use Rattle.std.proofs.Common.{◌≡◌, ℕ, ◌≤◌, List, [], ◌∷◌, length, vec_items, refl, ◌∙◌, arith}
use Rattle.std.proofs.lemmas.Bool.Decides.{nat_tests}
use Rattle.syntax.specs.Signs.{lex}
use Rattle.syntax.proofs.WholeSteps.{start, more_signs, all_read, misnamed}
use Rattle.syntax.proofs.whole.Goals as goal

empty : (s : List ℕ) → length s ≡ 0 → [] ≡ s
empty [] e = refl
empty (b ∷ s) e = absurd (omega arith)

pub returns-then-not-is_empty : goal.returns-then-not-is_empty
returns-then-not-is_empty c =
    let text = c.args.text.now in
    let x = c.in_ok-root.ensures.gives in
    let e = start (length text) (lex (length text) text) (vec_items c.clear.new.self.subterms) (vec_items c.clear.new.self.types) _ c.clear.ensures.0 c.clear.ensures.1 x.1 in
    let some : 1 ≤ length c.skip-rest.result.bytes.now = grind (arith, nat_tests, c.if-not-is_empty.true, c.is_empty.ensures) in
    let more = more_signs text (omega (arith, c.if-end-gt-LONGEST.false)) x.0 c.in_ok-root.rest.bytes.now e c.skip-rest.result.bytes.now c.skip-rest.ensures.bytes some in
    let to = x.3 in
    cc

pub returns-in-None : goal.returns-in-None
returns-in-None c =
    let none : length c.skip-rest.result.bytes.now ≡ 0 = grind (arith, nat_tests, c.if-not-is_empty.false, c.is_empty.ensures) in
    all_read c.args.text.now (omega (arith, c.if-end-gt-LONGEST.false)) c.clear.new.self c.term.new.program c.clear-2.new.self c.term.new.scope (c.in_ok-root.root, c.in_ok-root.rest) c.clear.ensures.0 c.clear.ensures.1 c.clear-2.ensures c.in_ok-root.ensures (empty c.skip-rest.result.bytes.now none ∙ c.skip-rest.ensures.bytes) c.in-None.is

pub returns-in-Some : goal.returns-in-Some
returns-in-Some c =
    let none : length c.skip-rest.result.bytes.now ≡ 0 = grind (arith, nat_tests, c.if-not-is_empty.false, c.is_empty.ensures) in
    misnamed c.args.text.now (omega (arith, c.if-end-gt-LONGEST.false)) c.clear.new.self c.term.new.program c.clear-2.new.self c.term.new.scope (c.in_ok-root.root, c.in_ok-root.rest) c.clear.ensures.0 c.clear.ensures.1 c.clear-2.ensures c.in_ok-root.ensures (empty c.skip-rest.result.bytes.now none ∙ c.skip-rest.ensures.bytes) c.in-Some.refusal c.in-Some.is
