-- What linear terms are made of: their parts are linear, and their free uses are distinct.
use Rattle.std.proofs.Common.{◌≡◌, ℕ, suc, ◌+◌, ◌++◌, length, refl, ap, arith}
use Rattle.calculus.specs.Types.{Ty}
use Rattle.calculus.specs.Terms.{Term, succ, lam, app, pair, split, iter, free, without}
use Rattle.calculus.specs.Typing.{Ctx, Pick, here, there, Typed, ty_succ, ty_lam, ty_app, ty_pair, ty_split, ty_iter}
use Rattle.geometry.specs.Derivations.{names, Distinct}
use Rattle.geometry.proofs.Names.{names-free, Once, once_left, once_right, once_pick}
use Rattle.network.specs.Parts.{Linear}

linear : {Γ : Ctx} {t : Term} {A : Ty} → Typed Γ t A → Once Γ → Linear t
linear {Γ} {t} {A} d o = record { context = Γ; type = A; derived = d; once = o }

pub distinct : {t : Term} → Linear t → Distinct (free t)
distinct l = rw (names-free l.derived) at l.once

-- a binder's variable is one of the names
pick_length : {x : ℕ} {T : Ty} {Γ Δ : Ctx} → Pick x T Γ Δ → length (names Γ) ≡ suc (length (names Δ))
pick_length (here a) = refl
pick_length (there n p) = ap suc (pick_length p)

-- one use goes out with its binder
bound_length : {x : ℕ} {T U : Ty} {t : Term} {Γ Δ : Ctx} → Typed Γ t U → Pick x T Γ Δ → length (free t) ≡ suc (length (without x (free t)))
bound_length {x} {T} {U} {t} d p =
    let a : length (names _) ≡ length (free t) = ap length (names-free d) in
    let b : length (names _) ≡ length (free (lam x T t)) = ap length (names-free (ty_lam d p)) in
    omega (arith, pick_length p, a, b)

under_succ : {t : Term} {Γ : Ctx} {A : Ty} → Typed Γ (succ t) A → Once Γ → Linear t
under_succ (ty_succ d) o = linear d o

pub linear_succ : {t : Term} → Linear (succ t) → Linear t
linear_succ l = under_succ l.derived l.once

under_lam : {x : ℕ} {T : Ty} {t : Term} {Γ : Ctx} {A : Ty} → Typed Γ (lam x T t) A → Once Γ → Linear t × (length (free t) ≡ suc (length (without x (free t))))
under_lam (ty_lam d p) o = (linear d (once_pick p o), bound_length d p)

pub linear_lam : {x : ℕ} {T : Ty} {t : Term} → Linear (lam x T t) → Linear t × (length (free t) ≡ suc (length (without x (free t))))
linear_lam l = under_lam l.derived l.once

under_app : {t u : Term} {Γ : Ctx} {A : Ty} → Typed Γ (app t u) A → Once Γ → Linear t × Linear u
under_app (ty_app {Γ = Γ} {Δ = Δ} d e) o = (linear d (once_left Γ Δ o), linear e (once_right Γ Δ o))

pub linear_app : {t u : Term} → Linear (app t u) → Linear t × Linear u
linear_app l = under_app l.derived l.once

under_pair : {t u : Term} {Γ : Ctx} {A : Ty} → Typed Γ (pair t u) A → Once Γ → Linear t × Linear u
under_pair (ty_pair {Γ = Γ} {Δ = Δ} d e) o = (linear d (once_left Γ Δ o), linear e (once_right Γ Δ o))

pub linear_pair : {t u : Term} → Linear (pair t u) → Linear t × Linear u
linear_pair l = under_pair l.derived l.once

under_split : {x y : ℕ} {t u : Term} {Γ : Ctx} {A : Ty} → Typed Γ (split x y t u) A → Once Γ → Linear t × Linear u × (length (free u) ≡ 2 + length (without x (without y (free u))))
under_split {x} {y} {t} {u} (ty_split {T = T} {U = U} {Γ = Γ} {Δ₂ = Δ₂} d e p q) o =
    (linear d (once_left Γ Δ₂ o), linear e (once_pick p (once_pick q (once_right Γ Δ₂ o))), omega (arith, bound_length e p, bound_length (ty_lam e p) q))

pub linear_split : {x y : ℕ} {t u : Term} → Linear (split x y t u) → Linear t × Linear u × (length (free u) ≡ 2 + length (without x (without y (free u))))
linear_split l = under_split l.derived l.once

under_iter : {t u v : Term} {Γ : Ctx} {A : Ty} → Typed Γ (iter t u v) A → Once Γ → Linear t × Linear u × Linear v
under_iter (ty_iter {Γ = Γ} {Δ = Δ} {Θ = Θ} d e f) o =
    let r = once_right Γ (Δ ++ Θ) o in
    (linear d (once_left Γ (Δ ++ Θ) o), linear e (once_left Δ Θ r), linear f (once_right Δ Θ r))

pub linear_iter : {t u v : Term} → Linear (iter t u v) → Linear t × Linear u × Linear v
linear_iter l = under_iter l.derived l.once
