-- The known outcomes, by computation.
use Rattle.std.proofs.Common.{◌≡◌, ℕ, ◌+◌, ◌*◌, ◌≤◌, List, [], Ok, codes, sym, refl, ap, ◌∙◌, subst, arith}
use Rattle.cells.specs.Ports.{inside, link, linked}
use Rattle.calculus.specs.Types.{N}
use Rattle.calculus.specs.Terms.{successors, iterators}
use Rattle.calculus.specs.Typing.{Typed, weight}
use Rattle.syntax.specs.Signs.{lex}
use Rattle.syntax.specs.Parse.{type, term}
use Rattle.syntax.specs.Trees.{Tree, erase}
use Rattle.language.specs.Infer.{infer}
use Rattle.geometry.specs.Network.{network}
use Rattle.grammar.specs.Exactness.{AcceptedExactly}
use Rattle.grammar.specs.Examples.{Weighs, KnownAnswers}
use Rattle.machine.specs.Steps.{go}
use Rattle.machine.specs.Worked.{OutAndBack}
use Rattle.token.specs.Next.{next, row_for}
use Rattle.token.specs.Distance.{ToNumber}
use Rattle.lab.specs.Outcomes.{tracer_rooms, Brings, ReachesBound, KnownOutcomes}

-- a text whose outcome and weight are known, and whose term has no iterator and few S signs
reaches : AcceptedExactly → (text : List ℕ) (n steps w : ℕ) (b : Brings text n steps) → Weighs text w → iterators (erase b.term) ≡ 0 → successors (erase b.term) ≤ 1000 → steps + 1 ≡ 2 * w → ReachesBound text n steps w
reaches exact text n steps w b v plain few longest =
    let (t, a, e) = (exact text b.term).0 b.accepted in
    let same : Ok b.term ≡ Ok v.term = sym b.accepted ∙ v.accepted in
    let one : b.term ≡ v.term = cc in
    let signs = ap (λ r. successors (erase r)) e in
    record {
      tree = t;
      accepted = a;
      plain = ap (λ r. iterators (erase r)) e ∙ plain;
      enough = record { letters = omega (arith, a.derived.low); datas = omega (arith, signs, few) };
      weighs = subst (λ (r : Tree ℕ). (d : Typed [] (erase r) N) → weight d ≡ w) (sym (e ∙ one)) v.weighs a.derived.derived;
      distance = subst (λ (r : Tree ℕ). ToNumber (network (erase r)) tracer_rooms n steps) (sym e) b.distance;
      longest = longest;
    }

-- by computation over the rules
number-brings : Brings (codes "3") 3 1
unfolding go next row_for inside link linked network lex type term infer
number-brings = record { term = _; accepted = refl; distance = record { last = _; way = refl; number = refl } }

application-brings : Brings (codes "(\\x:N.S x 3)") 4 11
unfolding go next row_for inside link linked network lex type term infer
application-brings = record { term = _; accepted = refl; distance = record { last = _; way = refl; number = refl } }

pair_brings : Brings (codes "let <x,y> = <\\z:N.z,7> in (x y)") 7 21
unfolding go next row_for inside link linked network lex type term infer
pair_brings = record { term = _; accepted = refl; distance = record { last = _; way = refl; number = refl } }

iterator-brings : Brings (codes "iter 2 \\x:N.S x 3") 5 39
unfolding go next row_for inside link linked network lex type term infer
iterator-brings = record { term = _; accepted = refl; distance = record { last = _; way = refl; number = refl } }

pub known_outcomes : KnownAnswers → AcceptedExactly → OutAndBack → KnownOutcomes
unfolding number-brings application-brings pair_brings
known_outcomes texts exact addition =
    record {
      texts = texts;
      number = number-brings;
      application = application-brings;
      pair = pair_brings;
      iterator = iterator-brings;
      number_home = reaches exact _ _ _ _ number-brings texts.number_weighs refl (omega arith) refl;
      application_home = reaches exact _ _ _ _ application-brings texts.application_weighs refl (omega arith) refl;
      pair_home = reaches exact _ _ _ _ pair_brings texts.let_weighs refl (omega arith) refl;
      addition = addition;
    }
