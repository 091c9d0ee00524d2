-- The laws of one shelf among others.
use Rattle.std.proofs.Common.{◌≡◌, ℕ, zero, suc, ◌<◌, ◌≤◌, List, [], length, refl, arith}
use Rattle.std.proofs.lemmas.List.{get_or-set_same, set-set, set-get_or}
use Rattle.stack.specs.Shelving.{shelf, with_shelf}

-- shelf j put where it was
pub with_shelf_same : {X : Type 0} (j : ℕ) (ls : List (List X)) → with_shelf j (shelf j ls) ls ≡ ls
with_shelf_same zero ls = refl
with_shelf_same (suc k) ls = set-get_or ls k []

-- what is put on shelf j stands there
pub with_shelf_shelf : {X : Type 0} (j : ℕ) (xs : List X) (ls : List (List X)) → 0 < j → j ≤ length ls → shelf j (with_shelf j xs ls) ≡ xs
with_shelf_shelf zero xs ls p h = let z : ⊥ = omega arith in elim z [ ]
with_shelf_shelf (suc k) xs ls p h = get_or-set_same ls k xs [] (omega arith)

-- what was put there before is gone
pub with_shelf_twice : {X : Type 0} (j : ℕ) (xs ys : List X) (ls : List (List X)) → with_shelf j xs (with_shelf j ys ls) ≡ with_shelf j xs ls
with_shelf_twice zero xs ys ls = refl
with_shelf_twice (suc k) xs ys ls = set-set ls k ys xs
