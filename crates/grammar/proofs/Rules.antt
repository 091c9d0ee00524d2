-- The rule of each construct: what is inferred from the types of the parts.
use Rattle.std.proofs.Common.{◌≡◌, ℕ, ◌<◌, ◌≤◌, true, false, ◌&&◌, leb, ◌⊎◌, ◌++◌, sym, refl, ap, ◌∙◌, subst, inl, inr, arith}
use Rattle.std.proofs.lemmas.Bool.{le-leb, lt-leb, cases_Bool, and_parts}
use Rattle.calculus.specs.Types.{Ty, N, ◌⇒◌, ◌⊗◌, height}
use Rattle.calculus.specs.Terms.{Term, free, without}
use Rattle.calculus.specs.Typing.{Ctx, Typed, ty_var, ty_num, ty_succ, ty_lam, ty_app, ty_pair, ty_split, ty_iter, tallest}
use Rattle.syntax.specs.Trees.{Binder, Tree, occ, num, succ, lam, app, pair, split, iter, erase, place_of}
use Rattle.syntax.specs.declared.refusal.Fault.TheVariants.{IllTyped, HighType}
use Rattle.language.specs.Infer.{same, good, bad, then, within, Env, put, split_rule, infer}
use Rattle.grammar.specs.Uses.{count, Linear}
use Rattle.grammar.specs.Derivations.{given, Has, Agrees}
use Rattle.grammar.specs.Faults.{Typable, Parts}
use Rattle.grammar.proofs.Contexts.{given-append, given_agrees, agrees_left, agrees_right, agrees_put, pick_given, count_let}
use Rattle.grammar.proofs.Unique.{alike}

same_self : (A : Ty) → same A A ≡ true
same_self N = refl
same_self (A ⇒ B) = rw (same_self A) (same_self B)
same_self (A ⊗ B) = rw (same_self A) (same_self B)

never : {A : Type 0} → false ≡ true → A
never h = let z : ◌≡◌ {A = ℕ} 0 1 = cc in absurd (omega arith)

same_is : (A B : Ty) → same A B ≡ true → A ≡ B
same_is N N h = refl
same_is N (C ⇒ D) h = never h
same_is N (C ⊗ D) h = never h
same_is (A ⇒ B) N h = never h
same_is (A ⇒ B) (C ⊗ D) h = never h
same_is (A ⊗ B) N h = never h
same_is (A ⊗ B) (C ⇒ D) h = never h
same_is (A ⇒ B) (C ⇒ D) h = let p = and_parts (same A C) (same B D) h in cc (same_is A C p.0, same_is B D p.1)
same_is (A ⊗ B) (C ⊗ D) h = let p = and_parts (same A C) (same B D) h in cc (same_is A C p.0, same_is B D p.1)

pub within_low : (p : ℕ) (A : Ty) → height A ≤ 64 → within p A ≡ good A
within_low p A h = rw (le-leb (height A) 64 h) refl

pub within_high : (p : ℕ) (A : Ty) → 64 < height A → within p A ≡ bad HighType p
within_high p A h = rw (lt-leb (height A) 64 h) refl

within-typed : (p : ℕ) (A : Ty) (q : ℕ) → within p A ≡ bad IllTyped q → ⊥
within-typed p A q h = elim (cases_Bool (leb (height A) 64)) [
  | inl x ↦ (let g : good A ≡ bad IllTyped q = rw x at h in let z : ◌≡◌ {A = ℕ} 0 1 = cc in omega arith)
  | inr x ↦ (let g : bad HighType p ≡ bad IllTyped q = rw x at h in let z : ◌≡◌ {A = ℕ} 0 1 = cc in omega arith)
]

-- with the types that the rule asks of the parts
succ_forms : (e : Env) (p : ℕ) (t : Tree ℕ) → infer e t ≡ good N → infer e (succ p t) ≡ within p N
unfolding infer
succ_forms e p t x = rw x refl

lam_forms : (e : Env) (p : ℕ) (x : Binder) (T U : Ty) (t : Tree ℕ) → infer (put e x.place T) t ≡ good U → infer e (lam p x T t) ≡ within p (T ⇒ U)
unfolding infer
lam_forms e p x T U t h = ap (λ r. then r (λ V. within p (T ⇒ V))) h

app_forms : (e : Env) (p : ℕ) (t u : Tree ℕ) (T U : Ty) → infer e t ≡ good (T ⇒ U) → infer e u ≡ good T → infer e (app p t u) ≡ within p U
unfolding infer
app_forms e p t u T U x y = rw (x, y, same_self T) refl

pair_forms : (e : Env) (p : ℕ) (t u : Tree ℕ) (T U : Ty) → infer e t ≡ good T → infer e u ≡ good U → infer e (pair p t u) ≡ within p (T ⊗ U)
unfolding infer
pair_forms e p t u T U x y = rw (x, y) refl

split_forms : (e : Env) (p : ℕ) (x y : Binder) (t u : Tree ℕ) (T U A : Ty) → infer e t ≡ good (T ⊗ U) → infer (put (put e x.place T) y.place U) u ≡ good A → infer e (split p x y t u) ≡ within p A
unfolding infer
split_forms e p x y t u T U A h k = ap (λ r. then r (split_rule p (λ B C. then (infer (put (put e x.place B) y.place C) u) (within p)))) h ∙ ap (λ r. then r (within p)) k

iter_forms : (e : Env) (p : ℕ) (t u v : Tree ℕ) (A : Ty) → infer e t ≡ good N → infer e u ≡ good (A ⇒ A) → infer e v ≡ good A → infer e (iter p t u v) ≡ within p A
unfolding infer
iter_forms e p t u v A x y z = rw (x, y, z, same_self A) refl

-- what is derived, each type at most 64 high, is inferred
pub complete : (t : Tree ℕ) (e : Env) {Γ : Ctx} {A : Ty} (d : Typed Γ (erase t) A) → Agrees e Γ → tallest d ≤ 64 → infer e t ≡ good A
unfolding infer
complete (occ p b) e (ty_var {A = A}) h l = ap (within p) h.0 ∙ within_low p A l
complete (num p n) e ty_num h l = refl
complete (succ p t) e (ty_succ d) h l = succ_forms e p t (complete t e d h l) ∙ within_low p N (omega arith)
complete (lam p x T t) e (ty_lam {U = U} d q) h l = lam_forms e p x T U t (complete t (put e x.place T) d (agrees_put e q h) (omega arith)) ∙ within_low p (T ⇒ U) (omega arith)
complete (app p t u) e (ty_app {T = T} {U = U} {Γ = Γ} {Δ = Δ} d d₂) h l =
    app_forms e p t u T U (complete t e d (agrees_left e Γ Δ h) (omega arith)) (complete u e d₂ (agrees_right e Γ Δ h) (omega arith)) ∙ within_low p U (omega arith)
complete (pair p t u) e (ty_pair {T = T} {U = U} {Γ = Γ} {Δ = Δ} d d₂) h l =
    pair_forms e p t u T U (complete t e d (agrees_left e Γ Δ h) (omega arith)) (complete u e d₂ (agrees_right e Γ Δ h) (omega arith)) ∙ within_low p (T ⊗ U) (omega arith)
complete (split p x y t u) e (ty_split {T = T} {U = U} {A = A} {Γ = Γ} {Δ₂ = Δ₂} d d₂ q r) h l =
    split_forms e p x y t u T U A (complete t e d (agrees_left e Γ Δ₂ h) (omega arith)) (complete u (put (put e x.place T) y.place U) d₂ (agrees_put (put e x.place T) q (agrees_put e r (agrees_right e Γ Δ₂ h))) (omega arith)) ∙ within_low p A (omega arith)
complete (iter p t u v) e (ty_iter {A = A} {Γ = Γ} {Δ = Δ} {Θ = Θ} d d₂ d₃) h l =
    let k = agrees_right e Γ (Δ ++ Θ) h in
    iter_forms e p t u v A (complete t e d (agrees_left e Γ (Δ ++ Θ) h) (omega arith)) (complete u e d₂ (agrees_left e Δ Θ k) (omega arith)) (complete v e d₃ (agrees_right e Δ Θ k) (omega arith)) ∙ within_low p A (omega arith)

pub has_infers : (e : Env) (t : Tree ℕ) (A : Ty) → Has e t A → infer e t ≡ good A
has_infers e t A h = complete t e h.derived (given_agrees e (free (erase t))) h.low

-- the type of a part in a derivation of the whole is the one that the part has
as_derived : (e : Env) (t : Tree ℕ) (h : Typable e t) {Γ : Ctx} {A : Ty} → Typed Γ (erase t) A → Agrees e Γ → infer e t ≡ good A
as_derived e t h d a = has_infers e t h.0 h.1 ∙ ap good (alike e t h.1.derived d (given_agrees e (free (erase t))) a).type

-- parts that have types, and a type of the whole, whatever its height
pub forms : (e : Env) (t : Tree ℕ) {Γ : Ctx} {A : Ty} → Typed Γ (erase t) A → Agrees e Γ → Parts e t → infer e t ≡ within (place_of t) A
unfolding infer
forms e (occ p b) ty_var h k = ap (within p) h.0
forms e (num p n) ty_num h k = refl
forms e (succ p t) (ty_succ d) h k = succ_forms e p t (as_derived e t k d h)
forms e (lam p x T t) (ty_lam {U = U} d q) h k = lam_forms e p x T U t (as_derived (put e x.place T) t k d (agrees_put e q h))
forms e (app p t u) (ty_app {T = T} {U = U} {Γ = Γ} {Δ = Δ} d d₂) h k = app_forms e p t u T U (as_derived e t k.0 d (agrees_left e Γ Δ h)) (as_derived e u k.1 d₂ (agrees_right e Γ Δ h))
forms e (pair p t u) (ty_pair {T = T} {U = U} {Γ = Γ} {Δ = Δ} d d₂) h k = pair_forms e p t u T U (as_derived e t k.0 d (agrees_left e Γ Δ h)) (as_derived e u k.1 d₂ (agrees_right e Γ Δ h))
forms e (split p x y t u) (ty_split {T = T} {U = U} {A = A} {Γ = Γ} {Δ₂ = Δ₂} d d₂ q r) h k =
    let c = as_derived e t (k.0 ⊗ k.1, k.2) d (agrees_left e Γ Δ₂ h) in
    let s : good (k.0 ⊗ k.1) ≡ good (T ⊗ U) = sym (has_infers e t (k.0 ⊗ k.1) k.2) ∙ c in
    let s₁ : k.0 ≡ T = cc in
    let s₂ : k.1 ≡ U = cc in
    let b = subst (λ X. Typable (put (put e x.place T) y.place X) u) s₂ (subst (λ X. Typable (put (put e x.place X) y.place k.1) u) s₁ k.3) in
    split_forms e p x y t u T U A c (as_derived (put (put e x.place T) y.place U) u b d₂ (agrees_put (put e x.place T) q (agrees_put e r (agrees_right e Γ Δ₂ h))))
forms e (iter p t u v) (ty_iter {A = A} {Γ = Γ} {Δ = Δ} {Θ = Θ} d d₂ d₃) h k =
    let m = agrees_right e Γ (Δ ++ Θ) h in
    iter_forms e p t u v A (as_derived e t k.0 d (agrees_left e Γ (Δ ++ Θ) h)) (as_derived e u k.1 d₂ (agrees_left e Δ Θ m)) (as_derived e v k.2 d₃ (agrees_right e Δ Θ m))

-- a whole is derived from its parts, and is low if its own type is
pub record Formed (Γ : Ctx) (t : Term) (A : Ty) : Type 0 where
  pub derived : Typed Γ t A
  pub rest : height A ≤ 64 → tallest derived ≤ 64

-- the rule holds, or it is refused
abbrev pub Node : Env → Tree ℕ → Type 0
Node e t = ((A : Ty) × Formed (given e (free (erase t))) (erase t) A) ⊎ (infer e t ≡ bad IllTyped (place_of t))

pub no_derivation : (e : Env) (t : Tree ℕ) → Parts e t → infer e t ≡ bad IllTyped (place_of t) → (A : Ty) → Typed (given e (free (erase t))) (erase t) A → ⊥
no_derivation e t k b A d = within-typed (place_of t) A (place_of t) (sym (forms e t d (given_agrees e (free (erase t))) k) ∙ b)

succ_node : (e : Env) (p : ℕ) (t : Tree ℕ) (A : Ty) → Has e t A → Node e (succ p t)
unfolding infer
succ_node e p t N h = inl (N, record { derived = ty_succ h.derived; rest = λ _. h.low })
succ_node e p t (A ⇒ B) h = inr (rw (has_infers e t (A ⇒ B) h) refl)
succ_node e p t (A ⊗ B) h = inr (rw (has_infers e t (A ⊗ B) h) refl)

lam_node : (e : Env) (p : ℕ) (x : Binder) (T U : Ty) (t : Tree ℕ) → count x.place (free (erase t)) ≡ 1 → Has (put e x.place T) t U → Node e (lam p x T t)
lam_node e p x T U t c h = inl (T ⇒ U, record { derived = ty_lam h.derived (pick_given e x.place T (free (erase t)) c); rest = λ l. (let m = h.low in omega arith) })

app_node : (e : Env) (p : ℕ) (t u : Tree ℕ) (F C : Ty) → Has e t F → Has e u C → Node e (app p t u)
unfolding infer
app_node e p t u N C h k = inr (rw (has_infers e t N h, has_infers e u C k) refl)
app_node e p t u (A ⊗ B) C h k = inr (rw (has_infers e t (A ⊗ B) h, has_infers e u C k) refl)
app_node e p t u (A ⇒ B) C h k = elim (cases_Bool (same A C)) [
  | inl s ↦ (
      let k' = subst (λ X. Has e u X) (sym (same_is A C s)) k in
      let f : Formed (given e (free (erase t)) ++ given e (free (erase u))) (erase (app p t u)) B = record { derived = ty_app h.derived k'.derived; rest = λ l. (let m = h.low in let n = k'.low in omega arith) } in
      inl (B, subst (λ Γ. Formed Γ (erase (app p t u)) B) (sym (given-append e (free (erase t)) (free (erase u)))) f))
  | inr s ↦ inr (rw (has_infers e t (A ⇒ B) h, has_infers e u C k, s) refl)
]

pair_node : (e : Env) (p : ℕ) (t u : Tree ℕ) (A B : Ty) → Has e t A → Has e u B → Node e (pair p t u)
pair_node e p t u A B h k =
    let f : Formed (given e (free (erase t)) ++ given e (free (erase u))) (erase (pair p t u)) (A ⊗ B) = record { derived = ty_pair h.derived k.derived; rest = λ l. (let m = h.low in let n = k.low in omega arith) } in
    inl (A ⊗ B, subst (λ Γ. Formed Γ (erase (pair p t u)) (A ⊗ B)) (sym (given-append e (free (erase t)) (free (erase u)))) f)

split_node : (e : Env) (p : ℕ) (x y : Binder) (t u : Tree ℕ) (T U A : Ty) → Linear (erase (split p x y t u)) → Has e t (T ⊗ U) → Has (put (put e x.place T) y.place U) u A → Node e (split p x y t u)
split_node e p x y t u T U A l h k =
    let a = x.place in
    let b = y.place in
    let us = free (erase u) in
    let q = pick_given (put e a T) b U us l.2 in
    let r = pick_given e a T (without b us) (count_let a b us l.0 l.1) in
    let f : Formed (given e (free (erase t)) ++ given e (without a (without b us))) (erase (split p x y t u)) A = record { derived = ty_split h.derived k.derived q r; rest = λ low. (let m = h.low in let n = k.low in omega arith) } in
    inl (A, subst (λ Γ. Formed Γ (erase (split p x y t u)) A) (sym (given-append e (free (erase t)) (without a (without b us)))) f)

iter_node : (e : Env) (p : ℕ) (t u v : Tree ℕ) (A F C : Ty) → Has e t A → Has e u F → Has e v C → Node e (iter p t u v)
unfolding infer
iter_node e p t u v (A ⇒ B) F C h k m = inr (rw (has_infers e t (A ⇒ B) h, has_infers e u F k, has_infers e v C m) refl)
iter_node e p t u v (A ⊗ B) F C h k m = inr (rw (has_infers e t (A ⊗ B) h, has_infers e u F k, has_infers e v C m) refl)
iter_node e p t u v N N C h k m = inr (rw (has_infers e t N h, has_infers e u N k, has_infers e v C m) refl)
iter_node e p t u v N (A ⊗ B) C h k m = inr (rw (has_infers e t N h, has_infers e u (A ⊗ B) k, has_infers e v C m) refl)
iter_node e p t u v N (A ⇒ B) C h k m = elim (cases_Bool (same A B && same A C)) [
  | inl s ↦ (
      let q = and_parts (same A B) (same A C) s in
      let k' = subst (λ X. Has e u (A ⇒ X)) (sym (same_is A B q.0)) k in
      let k'' = subst (λ X. Has e u (X ⇒ X)) (same_is A C q.1) k' in
      let Γ = given e (free (erase t)) in
      let Δ = given e (free (erase u)) in
      let Θ = given e (free (erase v)) in
      let f : Formed (Γ ++ (Δ ++ Θ)) (erase (iter p t u v)) C = record { derived = ty_iter h.derived k''.derived m.derived; rest = λ l. (let x = h.low in let y = k''.low in let z = m.low in omega arith) } in
      let g = given-append e (free (erase t)) (free (erase u) ++ free (erase v)) ∙ ap (λ w. Γ ++ w) (given-append e (free (erase u)) (free (erase v))) in
      inl (C, subst (λ w. Formed w (erase (iter p t u v)) C) (sym g) f))
  | inr s ↦ inr (rw (has_infers e t N h, has_infers e u (A ⇒ B) k, has_infers e v C m, s) refl)
]

pub node : (e : Env) (t : Tree ℕ) → Linear (erase t) → Parts e t → Node e t
node e (occ p b) l k = inl (e b, record { derived = ty_var; rest = λ h. h })
node e (num p n) l k = inl (N, record { derived = ty_num; rest = λ h. h })
node e (succ p t) l k = succ_node e p t k.0 k.1
node e (lam p x T t) l k = lam_node e p x T k.0 t l.0 k.1
node e (app p t u) l k = app_node e p t u k.0.0 k.1.0 k.0.1 k.1.1
node e (pair p t u) l k = pair_node e p t u k.0.0 k.1.0 k.0.1 k.1.1
node e (split p x y t u) l k = split_node e p x y t u k.0 k.1 k.3.0 l k.2 k.3.1
node e (iter p t u v) l k = iter_node e p t u v k.0.0 k.1.0 k.2.0 k.0.1 k.1.1 k.2.1
