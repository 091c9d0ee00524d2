-- What each sign of a spelling counts for, and the limits on the signs read so far. Assumes nothing.
use Rattle.std.specs.Prelude.{ℕ, suc, ◌<◌, ◌≤◌, max, Bool, true, false, cond, List, [], ◌∷◌, ◌++◌}
use Rattle.calculus.specs.Types.{Ty, N, ◌⇒◌, ◌⊗◌}
use Rattle.syntax.specs.Trees.{Tree, occ, num, succ, lam, app, pair, split, iter}
use Rattle.syntax.specs.declared.refusal.Fault.{Fault}
use Rattle.syntax.specs.declared.refusal.Fault.TheVariants.{LargeNumber, PassedLimit}

-- does a sub-term begin at the sign, and how deep; is it one of N, > and *; how deep is a type that begins at it; the value of a number
pub record Role : Type 0 where
  pub subterm : Bool
  pub depth : ℕ
  pub type_sign : Bool
  pub type_depth : ℕ
  pub value : ℕ

-- the sign that begins a sub-term d deep; a number is such a sign
abbrev pub begins : ℕ → Role
begins d = record { subterm = true; depth = d; type_sign = false; type_depth = 0; value = 0 }

abbrev pub number : ℕ → ℕ → Role
number d n = record { subterm = true; depth = d; type_sign = false; type_depth = 0; value = n }

-- N, which is a type d deep; the bracket that begins a type d deep; > or *; and any other sign
abbrev pub base : ℕ → Role
base d = record { subterm = false; depth = 0; type_sign = true; type_depth = d; value = 0 }

abbrev pub bracket : ℕ → Role
bracket d = record { subterm = false; depth = 0; type_sign = false; type_depth = d; value = 0 }

abbrev pub connective : Role
connective = record { subterm = false; depth = 0; type_sign = true; type_depth = 0; value = 0 }

abbrev pub plain : Role
plain = record { subterm = false; depth = 0; type_sign = false; type_depth = 0; value = 0 }

-- the roles of the signs of a type d deep, and of a term d deep, from the left
abbrev pub type_roles : ℕ → Ty → List Role
type_roles d N = base d ∷ []
type_roles d (A ⇒ B) = bracket d ∷ (type_roles (suc d) A ++ (connective ∷ (type_roles (suc d) B ++ (plain ∷ []))))
type_roles d (A ⊗ B) = bracket d ∷ (type_roles (suc d) A ++ (connective ∷ (type_roles (suc d) B ++ (plain ∷ []))))

abbrev pub roles : {U : Type 0} → ℕ → Tree U → List Role
roles d (occ p x) = begins d ∷ []
roles d (num p n) = number d n ∷ []
roles d (succ p t) = begins d ∷ roles (suc d) t
roles d (lam p x T t) = begins d ∷ plain ∷ plain ∷ (type_roles 1 T ++ (plain ∷ roles (suc d) t))
roles d (app p t u) = begins d ∷ (roles (suc d) t ++ (roles (suc d) u ++ (plain ∷ [])))
roles d (pair p t u) = begins d ∷ (roles (suc d) t ++ (plain ∷ (roles (suc d) u ++ (plain ∷ []))))
roles d (split p x y t u) = begins d ∷ plain ∷ plain ∷ plain ∷ plain ∷ plain ∷ plain ∷ (roles (suc d) t ++ (plain ∷ roles (suc d) u))
roles d (iter p t u v) = begins d ∷ (roles (suc d) t ++ (roles (suc d) u ++ roles (suc d) v))

-- how many signs have a trait, and the greatest measure of a sign
abbrev pub counted : (Role → Bool) → List Role → ℕ
counted f [] = 0
counted f (ρ ∷ l) = cond (f ρ) (suc (counted f l)) (counted f l)

abbrev pub greatest : (Role → ℕ) → List Role → ℕ
greatest f [] = 0
greatest f (ρ ∷ l) = max (f ρ) (greatest f l)

abbrev pub largest : List Role → ℕ
largest l = greatest (λ ρ. ρ.value) l

-- signs that keep all limits
pub record Kept (l : List Role) : Type 0 where
  pub numbers : largest l ≤ 1000000000
  pub subterms : counted (λ ρ. ρ.subterm) l ≤ 2048
  pub deep : greatest (λ ρ. ρ.depth) l ≤ 128
  pub signs : counted (λ ρ. ρ.type_sign) l ≤ 2048
  pub types_deep : greatest (λ ρ. ρ.type_depth) l ≤ 64

-- signs that break one: a number that is too large is named before another limit
pub data Broken (l : List Role) : Fault → Type 0 where
  too_large : 1000000000 < largest l → Broken l LargeNumber
  passed : largest l ≤ 1000000000 → (Kept l → ⊥) → Broken l PassedLimit
