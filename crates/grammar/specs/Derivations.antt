-- What a tree's types are, by the typing rules. Assumes nothing.
use Rattle.std.specs.Prelude.{◌≡◌, ℕ, ◌≤◌, List, [], ◌∷◌, ◌++◌}
use Rattle.calculus.specs.Types.{Ty, N, ◌⇒◌, ◌⊗◌}
use Rattle.calculus.specs.Terms.{Term, free}
use Rattle.calculus.specs.Typing.{Ctx, Typed, ty_var, ty_num, ty_succ, ty_lam, ty_app, ty_pair, ty_split, ty_iter, tallest}
use Rattle.syntax.specs.Trees.{Tree, erase}
use Rattle.language.specs.Infer.{Env}

-- Γ derives t at A, and no sub-term's type is higher than 64
pub record Derives (Γ : Ctx) (t : Term) (A : Ty) : Type 0 where
  pub derived : Typed Γ t A
  pub low : tallest derived ≤ 64

-- the context that gives each use the type of its binder
abbrev pub given : Env → List ℕ → Ctx
given e [] = []
given e (x ∷ xs) = (x, e x) ∷ given e xs

abbrev pub Has : Env → Tree ℕ → Ty → Type 0
Has e t A = Derives (given e (free (erase t))) (erase t) A

-- a context that gives its variables the types of e
abbrev pub Agrees : Env → Ctx → Type 0
Agrees e [] = Unit {0}
Agrees e (g ∷ Γ) = (e g.0 ≡ g.1) × Agrees e Γ

-- the types of all sub-terms, parts before wholes and left before right
abbrev pub types : {Γ : Ctx} {t : Term} {A : Ty} → Typed Γ t A → List Ty
types (ty_var {A = A}) = A ∷ []
types ty_num = N ∷ []
types (ty_succ d) = types d ++ (N ∷ [])
types (ty_lam {T = T} {U = U} d p) = types d ++ ((T ⇒ U) ∷ [])
types (ty_app {U = U} d e) = types d ++ (types e ++ (U ∷ []))
types (ty_pair {T = T} {U = U} d e) = types d ++ (types e ++ ((T ⊗ U) ∷ []))
types (ty_split {A = A} d e p q) = types d ++ (types e ++ (A ∷ []))
types (ty_iter {A = A} d e f) = types d ++ (types e ++ (types f ++ (A ∷ [])))
