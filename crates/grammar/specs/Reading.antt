-- That signs are read exactly as the grammar spells terms, and refused at the right sign. Assumes nothing.
use Rattle.std.specs.Prelude.{◌≡◌, ℕ, suc, ◌↔◌, List, [], ◌∷◌, ◌++◌, length, take}
use Rattle.syntax.specs.declared.refusal.Fault.{Fault}
use Rattle.syntax.specs.declared.refusal.Fault.TheVariants.{WrongSign}
use Rattle.syntax.specs.declared.refusal.Refusal.{Refusal}
use Rattle.syntax.specs.Trees.{Name, Tree}
use Rattle.syntax.specs.Signs.{Sign, Placed}
use Rattle.syntax.specs.Grammar.{Stands, Within}
use Rattle.syntax.specs.Parse.{got, refused, whole}
use Rattle.grammar.specs.Roles.{roles, Kept, Broken}

-- each sign of a spelling has one role, and a term is within the limits exactly when all its signs keep them
abbrev pub RolesFit : Type 0
RolesFit = (s : List Placed) (t : Tree Name) → Stands t s [] → (length (roles 1 t) ≡ length s) × (Kept (roles 1 t) ↔ Within t)

-- what is read is spelled, within the limits
pub record Read (t : Tree Name) (s r : List Placed) : Type 0 where
  pub all : r ≡ []
  pub spelled : Stands t s []
  pub within : Within t

abbrev pub ReadSpelled : Type 0
ReadSpelled = (end : ℕ) (s : List Placed) (t : Tree Name) (r : List Placed) → whole end s ≡ got t r → Read t s r

-- what is spelled within the limits is read
abbrev pub SpelledRead : Type 0
SpelledRead = (end : ℕ) (s : List Placed) (t : Tree Name) → Stands t s [] → Within t → whole end s ≡ got t []

-- no signs spell two terms
abbrev pub Unambiguous : Type 0
Unambiguous = (s : List Placed) (t u : Tree Name) → Stands t s [] → Stands u s [] → t ≡ u

-- the signs begin the spelling of some term
abbrev pub Begins : List Placed → Type 0
Begins front = (y : List Placed) × (t : Tree Name) × Stands t (front ++ y) []

-- the place of the next sign, or of the end
abbrev pub place_of_next : ℕ → List Placed → ℕ
place_of_next end [] = end
place_of_next end ((p, x) ∷ s) = p

-- y has the same sign next as rest, or ends as rest does
abbrev pub SameNext : List Placed → List Placed → Type 0
SameNext [] y = y ≡ []
SameNext ((p, x) ∷ rest) y = (q : ℕ) × (more : List Placed) × (y ≡ (q, x) ∷ more)

-- the signs before keep the limits, in every term whose spelling they begin
abbrev pub KeptBefore : List Placed → Type 0
KeptBefore front = (y : List Placed) (t : Tree Name) → Stands t (front ++ y) [] → Kept (take (length front) (roles 1 t))

-- at p stands a sign that goes on no spelling, or the end of signs that are none, though the signs before begin one
pub record Misplaced (end : ℕ) (s : List Placed) (p : ℕ) : Type 0 where
  pub front : List Placed
  pub rest : List Placed
  pub is : s ≡ front ++ rest
  pub place : p ≡ place_of_next end rest
  pub begins : Begins front
  pub kept : KeptBefore front
  pub stuck : (y : List Placed) (t : Tree Name) → SameNext rest y → Stands t (front ++ y) [] → ⊥

-- at p stands a sign that can stand there, and it is the first that breaks a limit
pub record Passes (f : Fault) (s : List Placed) (p : ℕ) : Type 0 where
  pub front : List Placed
  pub sign : Sign
  pub rest : List Placed
  pub is : s ≡ front ++ ((p, sign) ∷ rest)
  pub begins : Begins (front ++ ((p, sign) ∷ []))
  pub kept : KeptBefore front
  pub broken : (q : ℕ) (y : List Placed) (t : Tree Name) → Stands t (front ++ ((q, sign) ∷ y)) [] → Broken (take (suc (length front)) (roles 1 t)) f

pub data Refused (end : ℕ) (s : List Placed) : Refusal → Type 0 where
  misplaced : {p : ℕ} → Misplaced end s p → Refused end s (record { fault = WrongSign; place = p })
  passes : {f : Fault} {p : ℕ} → Passes f s p → Refused end s (record { fault = f; place = p })

abbrev pub RefusedRightly : Type 0
RefusedRightly = (end : ℕ) (s : List Placed) (f : Refusal) → whole end s ≡ refused f → Refused end s f
