-- The types of Linear System T, and their measures. Assumes nothing.
use Rattle.std.specs.Prelude.{ℕ, suc, ◌+◌, max}

-- numbers, functions and pairs
pub data Ty : Type 0 where
  N : Ty
  ◌⇒◌ : Ty → Ty → Ty
  ◌⊗◌ : Ty → Ty → Ty

infixr 60 ◌⇒◌
infixr 60 ◌⊗◌
-- N has height 0, another type one more than its higher part
abbrev pub height : Ty → ℕ
height N = 0
height (A ⇒ B) = suc (max (height A) (height B))
height (A ⊗ B) = suc (max (height A) (height B))

-- how many Ns stand in a type
abbrev pub naturals : Ty → ℕ
naturals N = 1
naturals (A ⇒ B) = naturals A + naturals B
naturals (A ⊗ B) = naturals A + naturals B

-- how many signs N, > and * a type is written with
abbrev pub signs : Ty → ℕ
signs N = 1
signs (A ⇒ B) = suc (signs A + signs B)
signs (A ⊗ B) = suc (signs A + signs B)
