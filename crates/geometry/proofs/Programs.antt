-- Derivations of the five programs.
use Rattle.std.proofs.Common.{[], refl, arith}
use Rattle.calculus.specs.Types.{N}
use Rattle.calculus.specs.Typing.{Typed, none_left, here, there, ty_var, ty_num, ty_succ, ty_lam, ty_app, ty_pair, ty_split, ty_iter}
use Rattle.geometry.specs.Examples.{next_of_three, applied, taken_apart, repeated, nested, WeighedOut, PremisesMet}

of_next_of_three : Typed [] next_of_three N
of_next_of_three = ty_succ ty_num

of_applied : Typed [] applied N
of_applied = ty_app (ty_lam (ty_succ ty_var) (here none_left)) ty_num

of_taken_apart : Typed [] taken_apart N
of_taken_apart = ty_split (ty_pair (ty_lam ty_var (here none_left)) ty_num) (ty_app ty_var ty_var) (there refl (here none_left)) (here none_left)

of_repeated : Typed [] repeated N
of_repeated = ty_iter ty_num (ty_lam (ty_succ ty_var) (here none_left)) ty_num

of_nested : Typed [] nested N
of_nested =
    ty_app (ty_app (ty_lam (ty_lam (ty_iter ty_num (ty_lam (ty_iter ty_num ty_var ty_var) (there refl (here none_left))) ty_var) (there refl (here none_left))) (here none_left)) (ty_lam (ty_succ ty_var) (here none_left))) ty_num

pub met : PremisesMet
met = record {
  by_next_of_three = record { typed = of_next_of_three; small = omega arith; few = omega arith };
  by_applied = record { typed = of_applied; small = omega arith; few = omega arith };
  by_taken_apart = record { typed = of_taken_apart; small = omega arith; few = omega arith };
  by_repeated = record { typed = of_repeated; small = omega arith; few = omega arith };
  by_nested = record { typed = of_nested; small = omega arith; few = omega arith };
}

pub weighed_out : WeighedOut
unfolding of_next_of_three of_applied of_taken_apart
weighed_out = record { two = (of_next_of_three, refl); six = (of_applied, refl); eleven = (of_taken_apart, refl) }
