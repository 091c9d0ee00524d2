-- The order of refusals: by their places, then by their numbers.
use Rattle.std.proofs.Common.{◌≡◌, ℕ, ◌||◌, ◌&&◌, ◌==◌, [], ◌∷◌, nat_lt, get_or, ap, ◌∙◌, refl, arith}
use Rattle.std.proofs.lemmas.Bool.Decides.{nat_tests}
use Rattle.std.specs.Ordering.{is_lt, ordering_then, nat_cmp, int_cmp}
use Rattle.syntax.specs.declared.refusal.Fault.{Fault}
use Rattle.syntax.specs.declared.refusal.Fault.TheVariants.{TooLong, WrongSign, LargeNumber, PassedLimit, Unbound, BoundTwice, UsedTwice, Unused, IllTyped, NoNumber, HighType, FewCells, ManyIterators}
use Rattle.syntax.specs.declared.refusal.Refusal.{Refusal}
use Rattle.syntax.specs.contracts.refusal.Fault.{the_type}
use Rattle.syntax.specs.contracts.refusal.FaultOrd.TheImpl as of_faults
use Rattle.syntax.specs.contracts.refusal.RefusalOrd.TheImpl as of_refusals
use Rattle.syntax.specs.Names.{before, number}
use denote.Enum.Declared.{tag_of}
use lib.IntN.{ℤ, pos}

by_number : (p q m n : ℕ) → is_lt (ordering_then (nat_cmp p q) (int_cmp (pos m) (pos n))) ≡ (nat_lt p q || (p == q && nat_lt m n))
by_number p q m n = grind (arith, nat_tests)

-- the number of a fault, as its declaration gives it
abbrev declared_number : Fault → ℤ
declared_number f = get_or (pos 1 ∷ pos 2 ∷ pos 3 ∷ pos 4 ∷ pos 5 ∷ pos 6 ∷ pos 7 ∷ pos 8 ∷ pos 9 ∷ pos 10 ∷ pos 11 ∷ pos 12 ∷ pos 13 ∷ []) (tag_of the_type f) (pos 0)

same_number : (f : Fault) → declared_number f ≡ pos (number f)
same_number TooLong = refl
same_number WrongSign = refl
same_number LargeNumber = refl
same_number PassedLimit = refl
same_number Unbound = refl
same_number BoundTwice = refl
same_number UsedTwice = refl
same_number Unused = refl
same_number IllTyped = refl
same_number NoNumber = refl
same_number HighType = refl
same_number FewCells = refl
same_number ManyIterators = refl

faults : (f g : Fault) → of_faults.cmp-value.it f g ≡ int_cmp (pos (number f)) (pos (number g))
faults f g = ap (λ x. int_cmp x (declared_number g)) (same_number f) ∙ ap (int_cmp (pos (number f))) (same_number g)

pub less_before : (a b : Refusal) → is_lt (of_refusals.cmp-value.it a b) ≡ before a b
less_before a b = ap (λ o. is_lt (ordering_then (nat_cmp a.place b.place) o)) (faults a.fault b.fault) ∙ by_number a.place b.place (number a.fault) (number b.fault)
