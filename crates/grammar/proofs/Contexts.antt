-- Contexts and the uses that they list.
use Rattle.std.proofs.Common.{◌≡◌, ℕ, suc, false, cond, eqb, List, [], ◌∷◌, ◌++◌, sym, refl, ap, ◌∙◌, subst, inl, inr, arith}
use Rattle.std.proofs.lemmas.Bool.{eq-eqb, eqb-true, cases_Bool}
use Rattle.calculus.specs.Types.{Ty}
use Rattle.calculus.specs.Terms.{Term, free, without}
use Rattle.calculus.specs.Typing.{Ctx, Absent, none_left, not_this, Pick, here, there, Typed, ty_var, ty_num, ty_succ, ty_lam, ty_app, ty_pair, ty_split, ty_iter}
use Rattle.language.specs.Infer.{Env, put}
use Rattle.grammar.specs.Uses.{count, Linear}
use Rattle.grammar.specs.Derivations.{given, Agrees}

pub given-append : (e : Env) (xs ys : List ℕ) → given e (xs ++ ys) ≡ given e xs ++ given e ys
given-append e [] ys = refl
given-append e (x ∷ xs) ys = ap (λ l. (x, e x) ∷ l) (given-append e xs ys)

pub given_agrees : (e : Env) (xs : List ℕ) → Agrees e (given e xs)
given_agrees e [] = tt
given_agrees e (x ∷ xs) = (refl, given_agrees e xs)

pub agrees_left : (e : Env) (Γ Δ : Ctx) → Agrees e (Γ ++ Δ) → Agrees e Γ
agrees_left e [] Δ h = tt
agrees_left e (g ∷ Γ) Δ h = (h.0, agrees_left e Γ Δ h.1)

pub agrees_right : (e : Env) (Γ Δ : Ctx) → Agrees e (Γ ++ Δ) → Agrees e Δ
agrees_right e [] Δ h = h
agrees_right e (g ∷ Γ) Δ h = agrees_right e Γ Δ h.1

agrees_absent : (e : Env) (T : Ty) {x : ℕ} {Γ : Ctx} → Absent x Γ → Agrees e Γ → Agrees (put e x T) Γ
agrees_absent e T none_left h = tt
agrees_absent e T (not_this n a) h = (rw n h.0, agrees_absent e T a h.1)

-- a binder's variable taken out of the context
pub agrees_put : (e : Env) {x : ℕ} {T : Ty} {Γ Δ : Ctx} → Pick x T Γ Δ → Agrees e Δ → Agrees (put e x T) Γ
agrees_put e {x} {T} (here a) h = (rw (eq-eqb x x refl) refl, agrees_absent e T a h)
agrees_put e (there n p) h = (rw n h.0, agrees_put e p h.1)

-- the variables that a context lists
abbrev pub keys : Ctx → List ℕ
keys [] = []
keys (g ∷ Γ) = g.0 ∷ keys Γ

keys_append : (Γ Δ : Ctx) → keys (Γ ++ Δ) ≡ keys Γ ++ keys Δ
keys_append [] Δ = refl
keys_append (g ∷ Γ) Δ = ap (λ l. g.0 ∷ l) (keys_append Γ Δ)

absent_keys : {x : ℕ} {Γ : Ctx} → Absent x Γ → (without x (keys Γ) ≡ keys Γ) × (count x (keys Γ) ≡ 0)
absent_keys none_left = (refl, refl)
absent_keys (not_this {y = y} n a) = (rw n (ap (λ l. y ∷ l) (absent_keys a).0), rw n (absent_keys a).1)

pick_keys : {x : ℕ} {T : Ty} {Γ Δ : Ctx} → Pick x T Γ Δ → keys Δ ≡ without x (keys Γ)
pick_keys {x} (here a) = rw (eq-eqb x x refl) (sym (absent_keys a).0)
pick_keys (there {y = y} n p) = rw n (ap (λ l. y ∷ l) (pick_keys p))

pick_count : {x : ℕ} {T : Ty} {Γ Δ : Ctx} → Pick x T Γ Δ → count x (keys Γ) ≡ 1
pick_count {x} (here a) = rw (eq-eqb x x refl) (ap suc (absent_keys a).1)
pick_count (there n p) = rw n (pick_count p)

-- a derivation's context lists the free uses, in their order
pub keys_free : {Γ : Ctx} {t : Term} {A : Ty} → Typed Γ t A → keys Γ ≡ free t
keys_free ty_var = refl
keys_free ty_num = refl
keys_free (ty_succ d) = keys_free d
keys_free (ty_lam {x = x} d p) = pick_keys p ∙ ap (without x) (keys_free d)
keys_free (ty_app {t = t} {Γ = Γ} {Δ = Δ} d e) = keys_append Γ Δ ∙ (rw (keys_free d) (ap (λ l. free t ++ l) (keys_free e)))
keys_free (ty_pair {t = t} {Γ = Γ} {Δ = Δ} d e) = keys_append Γ Δ ∙ (rw (keys_free d) (ap (λ l. free t ++ l) (keys_free e)))
keys_free (ty_split {x = x} {y = y} {t = t} {Γ = Γ} {Δ₂ = Δ₂} d e p q) =
    keys_append Γ Δ₂ ∙ (rw (keys_free d) (ap (λ l. free t ++ l) (pick_keys q ∙ ap (without x) (pick_keys p ∙ ap (without y) (keys_free e)))))
keys_free (ty_iter {t = t} {u = u} {Γ = Γ} {Δ = Δ} {Θ = Θ} d e f) =
    keys_append Γ (Δ ++ Θ) ∙ (rw (keys_free d) (ap (λ l. free t ++ l) (keys_append Δ Θ ∙ (rw (keys_free e) (ap (λ l. free u ++ l) (keys_free f))))))

count-without : (x y : ℕ) (l : List ℕ) → eqb x y ≡ false → count x (without y l) ≡ count x l
count-without x y [] n = refl
count-without x y (z ∷ l) n =
    elim (cases_Bool (eqb y z)) [
      | inl h ↦ (let o : eqb x z ≡ false = subst (λ w. eqb x w ≡ false) (eqb-true y z h) n in rw (h, o) (count-without x y l n))
      | inr h ↦ rw h (ap (λ c. cond (eqb x z) (suc c) c) (count-without x y l n))
    ]

-- a variable that stands once among the uses can be taken out
absent-given : (e : Env) (x : ℕ) (T : Ty) (l : List ℕ) → count x l ≡ 0 → Absent x (given e l) × (without x l ≡ l) × (given (put e x T) l ≡ given e l)
absent-given e x T [] h = (none_left, refl, refl)
absent-given e x T (y ∷ l) h =
    elim (cases_Bool (eqb x y)) [
      | inl n ↦ (let z : suc (count x l) ≡ 0 = rw n at h in absurd (omega arith))
      | inr n ↦ (
          let r = absent-given e x T l (rw n at h) in
          (not_this n r.0, rw n (ap (λ w. y ∷ w) r.1), rw n (ap (λ w. (y, e y) ∷ w) r.2)))
    ]

pub pick_given : (e : Env) (x : ℕ) (T : Ty) (l : List ℕ) → count x l ≡ 1 → Pick x T (given (put e x T) l) (given e (without x l))
pick_given e x T [] h = absurd (omega arith)
pick_given e x T (y ∷ l) h =
    elim (cases_Bool (eqb x y)) [
      | inl n ↦ (
          let z : suc (count x l) ≡ 1 = rw n at h in
          let r = absent-given e x T l (omega arith) in
          let o : x ≡ y = eqb-true x y n in
          let p : Pick x T ((x, T) ∷ given e l) (given e l) = here r.0 in
          rw (n, r.1, r.2) (subst (λ w. Pick x T ((w, T) ∷ given e l) (given e l)) o p))
      | inr n ↦ rw n (there n (pick_given e x T l (rw n at h)))
    ]

pub count_let : (x y : ℕ) (l : List ℕ) → eqb x y ≡ false → count x l ≡ 1 → count x (without y l) ≡ 1
count_let x y l n h = count-without x y l n ∙ h

-- what is derived uses each binder once
apart : (x y : ℕ) (l : List ℕ) → count x (without y l) ≡ 1 → eqb x y ≡ false
apart x y l h =
    elim (cases_Bool (eqb x y)) [
      | inr n ↦ n
      | inl n ↦ (let o : x ≡ y = eqb-true x y n in let g : count x (without x l) ≡ 1 = subst (λ z. count x (without z l) ≡ 1) (sym o) h in absurd (omega (arith, none x l, g)))
    ]
  where
    none : (x : ℕ) (l : List ℕ) → count x (without x l) ≡ 0
    none x [] = refl
    none x (z ∷ l) = elim (cases_Bool (eqb x z)) [ inl m ↦ rw m (none x l) | inr m ↦ rw (m, m) (none x l) ]

pub linear : {Γ : Ctx} {t : Term} {A : Ty} → Typed Γ t A → Linear t
linear ty_var = tt
linear ty_num = tt
linear (ty_succ d) = linear d
linear (ty_lam {x = x} d p) = (ap (count x) (sym (keys_free d)) ∙ pick_count p, linear d)
linear (ty_app d e) = (linear d, linear e)
linear (ty_pair d e) = (linear d, linear e)
linear (ty_split {x = x} {y = y} {u = u} d e p q) =
    let k : count x (without y (free u)) ≡ 1 = ap (λ l. count x (without y l)) (sym (keys_free e)) ∙ ap (count x) (sym (pick_keys p)) ∙ pick_count q in
    let n = apart x y (free u) k in
    (n, sym (count-without x y (free u) n) ∙ k, ap (count y) (sym (keys_free e)) ∙ pick_count p, linear d, linear e)
linear (ty_iter d e f) = (linear d, linear e, linear f)
