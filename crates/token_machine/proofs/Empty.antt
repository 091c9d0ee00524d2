-- Stacks that hold nothing.
use Rattle.std.proofs.Common.{◌≡◌, ℕ, suc, ◌+◌, false, ◌&&◌, eqb, List, [], ◌∷◌, length, refl, ap, ◌∙◌, arith}
use Rattle.std.proofs.lemmas.Bool.Decides.{nat_tests}
use Rattle.stack.specs.Shelving.{cells_held}
use Rattle.token.specs.State.{is_empty, all_empty}

pub is_empty_lem : {X : Type 0} (xs : List X) → eqb (length xs) 0 ≡ is_empty xs
is_empty_lem [] = refl
is_empty_lem (x ∷ xs) = never (length xs)
  where
    never : (n : ℕ) → eqb (suc n) 0 ≡ false
    never n = grind (arith, nat_tests)

none_in_all : (a b : ℕ) → eqb (a + b) 0 ≡ (eqb a 0 && eqb b 0)
none_in_all a b = grind (arith, nat_tests)

pub all_empty_lem : {X : Type 0} (ls : List (List X)) → eqb (cells_held ls) 0 ≡ all_empty ls
all_empty_lem [] = refl
all_empty_lem (xs ∷ ls) =
    none_in_all (length xs) (cells_held ls)
    ∙ ap (λ b. b && eqb (cells_held ls) 0) (is_empty_lem xs) ∙ ap (λ b. is_empty xs && b) (all_empty_lem ls)

-- what is asked of each stack, in turn
pub ruleset emptiness = (is_empty_lem, all_empty_lem)
