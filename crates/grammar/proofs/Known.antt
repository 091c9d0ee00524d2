-- The known answers, by computation.
use Rattle.std.proofs.Common.{◌≡◌, ℕ, ◌<◌, List, [], length, Ok, codes, sym, refl, ◌∙◌, subst, arith}
use lib.ListN.{length-replicate}
use Rattle.calculus.specs.Types.{N}
use Rattle.calculus.specs.Typing.{Typed}
use Rattle.syntax.specs.Trees.{Name, Tree, num, occ, succ, lam, app, pair, split, iter, erase}
use Rattle.syntax.specs.declared.refusal.Fault.TheVariants.{TooLong}
use Rattle.syntax.specs.Names.{fault}
use Rattle.syntax.specs.Signs.{lex}
use Rattle.syntax.specs.Parse.{type, term}
use Rattle.language.specs.Infer.{infer}
use Rattle.language.specs.Judgements.{judgements, sum, share, nobody}
use Rattle.language.specs.Accepts.{accepts}
use Rattle.grammar.specs.Exactness.{too_long}
use Rattle.grammar.specs.Examples.{long_text, Weighs, KnownAnswers}
use Rattle.grammar.proofs.Unique.{sums}
use Rattle.grammar.proofs.Exact.{exactly, rejected}

-- an accepted text has the weight of its sub-terms
weighs : (text : List ℕ) (t : Tree ℕ) (n : ℕ) → accepts text ≡ Ok t → sum share (judgements nobody t) ≡ n → Weighs text n
weighs text t n a s =
    let e = (exactly text t).0 a in
    record {
      term = t;
      accepted = a;
      derived = subst (λ r. Typed [] (erase r) N) e.2 e.1.derived.derived;
      weighs = λ d. sym (sums nobody t [] N d tt).weights ∙ s;
    }

abbrev x : Name
x = codes "x"

abbrev y : Name
y = codes "y"

abbrev z : Name
z = codes "z"

long : 16384 < length long_text
long = let n = length-replicate {A = ℕ} 16385 32 in omega arith

pub known : KnownAnswers
unfolding lex type term infer
known = record {
  too_long = (rejected long_text (fault TooLong 0)).1 (too_long long);
  wrong_sign = refl;
  large_number = refl;
  largest_number = refl;
  passed_limit = refl;
  unbound = refl;
  bound_twice = refl;
  used_twice = refl;
  unused = refl;
  ill_typed = refl;
  high_type = refl;
  no_number = refl;
  many_iterators = refl;
  number_weighs = weighs (codes "3") (num 0 3) 1 refl refl;
  application_weighs = weighs (codes "(\\x:N.S x 3)") (app 0 (lam 1 (record { place = 2; name = x }) N (succ 6 (occ 8 2))) (num 10 3)) 6 refl refl;
  let_weighs = weighs (codes "let <x,y> = <\\z:N.z,7> in (x y)") (split 0 (record { place = 5; name = x }) (record { place = 7; name = y }) (pair 12 (lam 13 (record { place = 14; name = z }) N (occ 18 14)) (num 20 7)) (app 26 (occ 27 5) (occ 29 7))) 11 refl refl;
  iterator_weighs = weighs (codes "iter 2 \\x:N.S x 3") (iter 0 (num 5 2) (lam 7 (record { place = 8; name = x }) N (succ 12 (occ 14 8))) (num 16 3)) 7 refl refl;
}
