-- The variables of contexts: they are the free variables, and no one stands twice below a closed derivation.
use Rattle.std.proofs.Common.{◌≡◌, ℕ, false, eqb, List, [], ◌∷◌, ◌++◌, sym, refl}
use Rattle.std.proofs.lemmas.Bool.{eq-eqb, ne_eqb, eqb-false}
use Rattle.calculus.specs.Types.{Ty}
use Rattle.calculus.specs.Terms.{Term, free, without}
use Rattle.calculus.specs.Typing.{Ctx, Absent, none_left, not_this, Pick, here, there, Typed, ty_var, ty_num, ty_succ, ty_lam, ty_app, ty_pair, ty_split, ty_iter}
use Rattle.geometry.specs.Derivations.{names, Apart, Distinct, Everywhere}

pub names-append : (Γ Δ : Ctx) → names (Γ ++ Δ) ≡ names Γ ++ names Δ
names-append [] Δ = refl
names-append (g ∷ Γ) Δ = rw (names-append Γ Δ) refl

names-absent : {x : ℕ} {Γ : Ctx} → Absent x Γ → without x (names Γ) ≡ names Γ
names-absent none_left = refl
names-absent (not_this n a) = rw (n, names-absent a) refl

names_pick : {x : ℕ} {T : Ty} {Γ Δ : Ctx} → Pick x T Γ Δ → names Δ ≡ without x (names Γ)
names_pick {x} (here a) = rw (eq-eqb x x refl, names-absent a) refl
names_pick (there n p) = rw (n, names_pick p) refl

-- the context lists the free variables
pub names-free : {Γ : Ctx} {t : Term} {A : Ty} → Typed Γ t A → names Γ ≡ free t
names-free ty_var = refl
names-free ty_num = refl
names-free (ty_succ d) = names-free d
names-free (ty_lam d p) = rw (names_pick p, names-free d) refl
names-free (ty_app {Γ = Γ} {Δ = Δ} d e) = rw (names-append Γ Δ, names-free d, names-free e) refl
names-free (ty_pair {Γ = Γ} {Δ = Δ} d e) = rw (names-append Γ Δ, names-free d, names-free e) refl
names-free (ty_split {Γ = Γ} {Δ₂ = Δ₂} d e p q) = rw (names-append Γ Δ₂, names_pick q, names_pick p, names-free d, names-free e) refl
names-free (ty_iter {Γ = Γ} {Δ = Δ} {Θ = Θ} d e f) = rw (names-append Γ (Δ ++ Θ), names-append Δ Θ, names-free d, names-free e, names-free f) refl

pub Apart-left : (x : ℕ) (xs ys : List ℕ) → Apart x (xs ++ ys) → Apart x xs
Apart-left x [] ys h = tt
Apart-left x (y ∷ xs) ys h = (h.0, Apart-left x xs ys h.1)

pub Distinct-left : (xs ys : List ℕ) → Distinct (xs ++ ys) → Distinct xs
Distinct-left [] ys h = tt
Distinct-left (x ∷ xs) ys h = (Apart-left x xs ys h.0, Distinct-left xs ys h.1)

pub Distinct-right : (xs ys : List ℕ) → Distinct (xs ++ ys) → Distinct ys
Distinct-right [] ys h = h
Distinct-right (x ∷ xs) ys h = Distinct-right xs ys h.1

apart_absent : {x : ℕ} {Γ : Ctx} → Absent x Γ → Apart x (names Γ)
apart_absent none_left = tt
apart_absent (not_this n a) = (n, apart_absent a)

apart_pick : (y : ℕ) {x : ℕ} {T : Ty} {Γ Δ : Ctx} → eqb y x ≡ false → Pick x T Γ Δ → Apart y (names Δ) → Apart y (names Γ)
apart_pick y e (here a) h = (e, h)
apart_pick y e (there n p) h = (h.0, apart_pick y e p h.1)

-- one variable more is none of the others
distinct_pick : {x : ℕ} {T : Ty} {Γ Δ : Ctx} → Pick x T Γ Δ → Distinct (names Δ) → Distinct (names Γ)
distinct_pick (here a) h = (apart_absent a, h)
distinct_pick {x} (there {y = y} n p) h = (apart_pick y (ne_eqb y x (λ q. eqb-false x y n (sym q))) p h.0, distinct_pick p h.1)

-- a context without repetition
abbrev pub Once : Ctx → Type 0
Once Γ = Distinct (names Γ)

pub once_left : (Γ Δ : Ctx) → Once (Γ ++ Δ) → Once Γ
once_left Γ Δ h = Distinct-left (names Γ) (names Δ) (rw (names-append Γ Δ) at h)

pub once_right : (Γ Δ : Ctx) → Once (Γ ++ Δ) → Once Δ
once_right Γ Δ h = Distinct-right (names Γ) (names Δ) (rw (names-append Γ Δ) at h)

pub once_pick : {x : ℕ} {T : Ty} {Γ Δ : Ctx} → Pick x T Γ Δ → Once Δ → Once Γ
once_pick p h = distinct_pick p h

-- from a context to those of the parts
pub everywhere : {Γ : Ctx} {t : Term} {A : Ty} (d : Typed Γ t A) → Once Γ → Everywhere (λ Δ. Distinct (names Δ)) d
everywhere ty_var h = h
everywhere ty_num h = h
everywhere (ty_succ d) h = (h, everywhere d h)
everywhere (ty_lam d p) h = (h, everywhere d (once_pick p h))
everywhere (ty_app {Γ = Γ} {Δ = Δ} d e) h = (h, everywhere d (once_left Γ Δ h), everywhere e (once_right Γ Δ h))
everywhere (ty_pair {Γ = Γ} {Δ = Δ} d e) h = (h, everywhere d (once_left Γ Δ h), everywhere e (once_right Γ Δ h))
everywhere (ty_split {Γ = Γ} {Δ₂ = Δ₂} d e p q) h = (h, everywhere d (once_left Γ Δ₂ h), everywhere e (once_pick p (once_pick q (once_right Γ Δ₂ h))))
everywhere (ty_iter {Γ = Γ} {Δ = Δ} {Θ = Θ} d e f) h =
    let g = once_right Γ (Δ ++ Θ) h in
    (h, everywhere d (once_left Γ (Δ ++ Θ) h), everywhere e (once_left Δ Θ g), everywhere f (once_right Δ Θ g))
