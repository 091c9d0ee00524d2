-- The linear typing rules. A context lists the free variables with their types in order of use; each is used exactly once. Assumes nothing.
use Rattle.std.specs.Prelude.{◌≡◌, false, List, [], ◌∷◌, ◌++◌, ℕ, ◌+◌, max, eqb}
use Rattle.calculus.specs.Types.{Ty, N, ◌⇒◌, ◌⊗◌, height, naturals}
use Rattle.calculus.specs.Terms.{Term, var, num, succ, lam, app, pair, split, iter}

abbrev pub Ctx : Type 0
Ctx = List (ℕ × Ty)

-- x is nowhere in the context
pub data Absent (x : ℕ) : Ctx → Type 0 where
  none_left : Absent x []
  not_this : {y : ℕ} {A : Ty} {Γ : Ctx} → eqb x y ≡ false → Absent x Γ → Absent x ((y, A) ∷ Γ)

-- Γ has x, with the type T, exactly once, and Δ is the rest of it
pub data Pick (x : ℕ) (T : Ty) : Ctx → Ctx → Type 0 where
  here : {Δ : Ctx} → Absent x Δ → Pick x T ((x, T) ∷ Δ) Δ
  there : {y : ℕ} {A : Ty} {Γ Δ : Ctx} → eqb x y ≡ false → Pick x T Γ Δ → Pick x T ((y, A) ∷ Γ) ((y, A) ∷ Δ)

-- Γ derives t at the type A: the context is split between the parts, and a binder takes its variable out
pub data Typed : Ctx → Term → Ty → Type 0 where
  ty_var : {x : ℕ} {A : Ty} → Typed ((x, A) ∷ []) (var x) A
  ty_num : {n : ℕ} → Typed [] (num n) N
  ty_succ : {Γ : Ctx} {t : Term} → Typed Γ t N → Typed Γ (succ t) N
  ty_lam : {x : ℕ} {T U : Ty} {t : Term} {Γ Δ : Ctx} → Typed Γ t U → Pick x T Γ Δ → Typed Δ (lam x T t) (T ⇒ U)
  ty_app : {T U : Ty} {t u : Term} {Γ Δ : Ctx} → Typed Γ t (T ⇒ U) → Typed Δ u T → Typed (Γ ++ Δ) (app t u) U
  ty_pair : {T U : Ty} {t u : Term} {Γ Δ : Ctx} → Typed Γ t T → Typed Δ u U → Typed (Γ ++ Δ) (pair t u) (T ⊗ U)
  ty_split : {x y : ℕ} {T U A : Ty} {t u : Term} {Γ Δ Δ₁ Δ₂ : Ctx} → Typed Γ t (T ⊗ U) → Typed Δ u A → Pick y U Δ Δ₁ → Pick x T Δ₁ Δ₂ → Typed (Γ ++ Δ₂) (split x y t u) A
  ty_iter : {A : Ty} {t u v : Term} {Γ Δ Θ : Ctx} → Typed Γ t N → Typed Δ u (A ⇒ A) → Typed Θ v A → Typed (Γ ++ (Δ ++ Θ)) (iter t u v) A

-- the weight: the Ns in the types of all sub-terms but lets
abbrev pub weight : {Γ : Ctx} {t : Term} {A : Ty} → Typed Γ t A → ℕ
weight (ty_var {A = A}) = naturals A
weight ty_num = 1
weight (ty_succ d) = 1 + weight d
weight (ty_lam {T = T} {U = U} d p) = naturals (T ⇒ U) + weight d
weight (ty_app {U = U} d e) = naturals U + (weight d + weight e)
weight (ty_pair {T = T} {U = U} d e) = naturals (T ⊗ U) + (weight d + weight e)
weight (ty_split d e p q) = weight d + weight e
weight (ty_iter {A = A} d e f) = naturals A + (weight d + (weight e + weight f))

-- the greatest height of a sub-term's type
abbrev pub tallest : {Γ : Ctx} {t : Term} {A : Ty} → Typed Γ t A → ℕ
tallest (ty_var {A = A}) = height A
tallest ty_num = 0
tallest (ty_succ d) = tallest d
tallest (ty_lam {T = T} {U = U} d p) = max (height (T ⇒ U)) (tallest d)
tallest (ty_app {U = U} d e) = max (height U) (max (tallest d) (tallest e))
tallest (ty_pair {T = T} {U = U} d e) = max (height (T ⊗ U)) (max (tallest d) (tallest e))
tallest (ty_split {A = A} d e p q) = max (height A) (max (tallest d) (tallest e))
tallest (ty_iter {A = A} d e f) = max (height A) (max (tallest d) (max (tallest e) (tallest f)))
