-- No label's type is higher than the types of the sub-terms.
use Rattle.std.proofs.Common.{ℕ, suc, ◌+◌, ◌≤◌, [], ◌∷◌, ◌++◌, arith}
use Rattle.cells.specs.declared.kinds.Kind.{Kind}
use Rattle.calculus.specs.Types.{Ty, height}
use Rattle.calculus.specs.Terms.{Term, iterators}
use Rattle.calculus.specs.Typing.{Ctx, Pick, here, there, Typed, ty_var, ty_num, ty_succ, ty_lam, ty_app, ty_pair, ty_split, ty_iter, tallest}
use Rattle.geometry.specs.Labels.{type_of}
use Rattle.geometry.specs.Network.{made}
use Rattle.geometry.specs.Derivations.{Three, carried, labels}
use Rattle.geometry.proofs.Typed.{Pairwise, Pairwise-append, EachType, Passes, pairwise_part}

-- the types of a node's labels are no higher than h
abbrev pub Low : ℕ → Kind → Three → Type 0
Low h κ a = (height (type_of a.0) ≤ h) × (height (type_of a.1) ≤ h) × (height (type_of a.2) ≤ h)

-- the type of the whole is one of those measured
top : {Γ : Ctx} {t : Term} {A : Ty} (d : Typed Γ t A) → height A ≤ tallest d
top ty_var = omega arith
top ty_num = omega arith
top (ty_succ d) = omega arith
top (ty_lam d p) = omega arith
top (ty_app d e) = omega arith
top (ty_pair d e) = omega arith
top (ty_split d e p q) = omega arith
top (ty_iter d e f) = omega arith

-- and so are those of the variables
abbrev Flat : ℕ → Ctx → Type 0
Flat h Γ = EachType (Passes (Low h)) Γ

Flat-append : (h : ℕ) (Γ Δ : Ctx) → Flat h Γ → Flat h Δ → Flat h (Γ ++ Δ)
Flat-append h [] Δ a b = b
Flat-append h (g ∷ Γ) Δ a b = (a.0, Flat-append h Γ Δ a.1 b)

Flat-pick : (h : ℕ) {x : ℕ} {T : Ty} {Γ Δ : Ctx} → Pick x T Γ Δ → Flat h Γ → Flat h Δ
Flat-pick h (here a) f = f.1
Flat-pick h (there n p) f = (f.0, Flat-pick h p f.1)

flat : (h : ℕ) {Γ : Ctx} {t : Term} {A : Ty} (d : Typed Γ t A) → tallest d ≤ h → Flat h Γ
flat h ty_var l = (omega arith, tt)
flat h ty_num l = tt
flat h (ty_succ d) l = flat h d l
flat h (ty_lam d p) l = Flat-pick h p (flat h d (omega arith))
flat h (ty_app {Γ = Γ} {Δ = Δ} d e) l = Flat-append h Γ Δ (flat h d (omega arith)) (flat h e (omega arith))
flat h (ty_pair {Γ = Γ} {Δ = Δ} d e) l = Flat-append h Γ Δ (flat h d (omega arith)) (flat h e (omega arith))
flat h (ty_split {Γ = Γ} {Δ₂ = Δ₂} d e p q) l = Flat-append h Γ Δ₂ (flat h d (omega arith)) (Flat-pick h q (Flat-pick h p (flat h e (omega arith))))
flat h (ty_iter {Γ = Γ} {Δ = Δ} {Θ = Θ} d e f) l = Flat-append h Γ (Δ ++ Θ) (flat h d (omega arith)) (Flat-append h Δ Θ (flat h e (omega arith)) (flat h f (omega arith)))

pub low : (h : ℕ) {Γ : Ctx} {t : Term} {A : Ty} (d : Typed Γ t A) → tallest d ≤ h → (i : ℕ) → Pairwise (Low h) (made t i) (labels d)
low h ty_var l i = tt
low h ty_num l i = (omega arith, tt)
low h (ty_succ d) l i = (omega arith, low h d l i)
low h (ty_lam d p) l i = (omega arith, low h d (omega arith) i)
low h (ty_app {t = t} d e) l i = (omega (arith, top d), Pairwise-append (Low h) (made t i) _ (labels d) (labels e) (low h d (omega arith) i) (low h e (omega arith) (i + iterators t)))
low h (ty_pair {t = t} d e) l i = (omega arith, Pairwise-append (Low h) (made t i) _ (labels d) (labels e) (low h d (omega arith) i) (low h e (omega arith) (i + iterators t)))
low h (ty_split {t = t} d e p q) l i = (omega (arith, top d), Pairwise-append (Low h) (made t i) _ (labels d) (labels e) (low h d (omega arith) i) (low h e (omega arith) (i + iterators t)))
low h (ty_iter {t = t} {u = u} {Δ = Δ} {Θ = Θ} d e f) l i =
    let s = suc i + iterators t in
    let step = pairwise_part (Low h) i s e (flat h e (omega arith)) (low h e (omega arith) s) in
    let base = pairwise_part (Low h) i (s + iterators u) f (flat h f (omega arith)) (low h f (omega arith) (s + iterators u)) in
    (omega arith, (omega arith, (omega arith, (omega (arith, top e), Pairwise-append (Low h) (made t (suc i)) _ (labels d) _ (low h d (omega arith) (suc i)) (Pairwise-append (Low h) _ _ (labels e ++ carried Δ) (labels f ++ carried Θ) step base)))))
