-- Inference against the rules: a type, or the first fault.
use Rattle.std.proofs.Common.{◌≡◌, ℕ, ◌⊎◌, sym, refl, ap, ◌∙◌, subst, inl, inr, arith}
use Rattle.std.proofs.lemmas.Bool.{cases_lt}
use Rattle.calculus.specs.Types.{Ty, N, ◌⇒◌, ◌⊗◌, height}
use Rattle.calculus.specs.Terms.{free}
use Rattle.syntax.specs.Trees.{Binder, Tree, occ, num, succ, lam, app, pair, split, iter, erase, place_of}
use Rattle.syntax.specs.declared.refusal.Fault.{Fault}
use Rattle.syntax.specs.declared.refusal.Fault.TheVariants.{IllTyped, HighType}
use Rattle.language.specs.Infer.{Checked, good, bad, then, within, Env, put, split_rule, infer}
use Rattle.grammar.specs.Uses.{Linear}
use Rattle.grammar.specs.Derivations.{Has}
use Rattle.grammar.specs.Faults.{Typable, Parts, First, no_type, too_high, no_pair, in_succ, in_lam, in_app₁, in_app₂, in_pair₁, in_pair₂, in_split₁, in_split₂, in_iter₁, in_iter₂, in_iter₃}
use Rattle.grammar.specs.Typings.{InferredDerived, DerivedInferred, DerivedLinear, FirstFault}
use Rattle.grammar.proofs.Contexts.{given_agrees, linear}
use Rattle.grammar.proofs.Rules.{within_high, complete, has_infers, forms, Node, no_derivation, node}

-- the first fault, and that it is the one inferred
abbrev Refused : Env → Tree ℕ → Type 0
Refused e t = (f : Fault) × (p : ℕ) × First e t f p × (infer e t ≡ bad f p)

abbrev Judged : Env → Tree ℕ → Type 0
Judged e t = Typable e t ⊎ Refused e t

settle : (e : Env) (t : Tree ℕ) → Parts e t → Node e t → Judged e t
settle e t k (inr b) = inr (IllTyped, place_of t, no_type t k (no_derivation e t k b), b)
settle e t k (inl (A, f)) = elim (cases_lt 64 (height A)) [
  | inl h ↦ inr (HighType, place_of t, too_high t k f.derived h, forms e t f.derived (given_agrees e (free (erase t))) k ∙ within_high (place_of t) A h)
  | inr h ↦ inl (A, record { derived = f.derived; low = f.rest h })
]

-- a fault in a part is one of the whole
succ_bad : (e : Env) (p : ℕ) (t : Tree ℕ) (f : Fault) (q : ℕ) → infer e t ≡ bad f q → infer e (succ p t) ≡ bad f q
unfolding infer
succ_bad e p t f q h = rw h refl

lam_bad : (e : Env) (p : ℕ) (x : Binder) (T : Ty) (t : Tree ℕ) (f : Fault) (q : ℕ) → infer (put e x.place T) t ≡ bad f q → infer e (lam p x T t) ≡ bad f q
unfolding infer
lam_bad e p x T t f q h = ap (λ r. then r (λ V. within p (T ⇒ V))) h

app_bad₁ : (e : Env) (p : ℕ) (t u : Tree ℕ) (f : Fault) (q : ℕ) → infer e t ≡ bad f q → infer e (app p t u) ≡ bad f q
unfolding infer
app_bad₁ e p t u f q h = rw h refl

app_bad₂ : (e : Env) (p : ℕ) (t u : Tree ℕ) (f : Fault) (q : ℕ) → Typable e t → infer e u ≡ bad f q → infer e (app p t u) ≡ bad f q
unfolding infer
app_bad₂ e p t u f q k h = rw (has_infers e t k.0 k.1, h) refl

pair_bad₁ : (e : Env) (p : ℕ) (t u : Tree ℕ) (f : Fault) (q : ℕ) → infer e t ≡ bad f q → infer e (pair p t u) ≡ bad f q
unfolding infer
pair_bad₁ e p t u f q h = rw h refl

pair_bad₂ : (e : Env) (p : ℕ) (t u : Tree ℕ) (f : Fault) (q : ℕ) → Typable e t → infer e u ≡ bad f q → infer e (pair p t u) ≡ bad f q
unfolding infer
pair_bad₂ e p t u f q k h = rw (has_infers e t k.0 k.1, h) refl

-- what follows the first part of a let
abbrev after : Env → ℕ → Binder → Binder → Tree ℕ → Checked → Checked
after e p x y u r = then r (split_rule p (λ A B. then (infer (put (put e x.place A) y.place B) u) (within p)))

split_bad₁ : (e : Env) (p : ℕ) (x y : Binder) (t u : Tree ℕ) (f : Fault) (q : ℕ) → infer e t ≡ bad f q → infer e (split p x y t u) ≡ bad f q
unfolding infer
split_bad₁ e p x y t u f q h = ap (after e p x y u) h

split_bad₂ : (e : Env) (p : ℕ) (x y : Binder) (t u : Tree ℕ) (A B : Ty) (f : Fault) (q : ℕ) → Has e t (A ⊗ B) → infer (put (put e x.place A) y.place B) u ≡ bad f q → infer e (split p x y t u) ≡ bad f q
unfolding infer
split_bad₂ e p x y t u A B f q k h = ap (after e p x y u) (has_infers e t (A ⊗ B) k) ∙ ap (λ r. then r (within p)) h

not_pair : (e : Env) (p : ℕ) (x y : Binder) (t u : Tree ℕ) (A : Ty) → Has e t A → ((B C : Ty) → A ≡ (B ⊗ C) → ⊥) → infer e (split p x y t u) ≡ bad IllTyped p
unfolding infer
not_pair e p x y t u N k n = ap (after e p x y u) (has_infers e t N k)
not_pair e p x y t u (A ⇒ B) k n = ap (after e p x y u) (has_infers e t (A ⇒ B) k)
not_pair e p x y t u (A ⊗ B) k n = absurd (n A B refl)

iter_bad₁ : (e : Env) (p : ℕ) (t u v : Tree ℕ) (f : Fault) (q : ℕ) → infer e t ≡ bad f q → infer e (iter p t u v) ≡ bad f q
unfolding infer
iter_bad₁ e p t u v f q h = rw h refl

iter_bad₂ : (e : Env) (p : ℕ) (t u v : Tree ℕ) (f : Fault) (q : ℕ) → Typable e t → infer e u ≡ bad f q → infer e (iter p t u v) ≡ bad f q
unfolding infer
iter_bad₂ e p t u v f q k h = rw (has_infers e t k.0 k.1, h) refl

iter_bad₃ : (e : Env) (p : ℕ) (t u v : Tree ℕ) (f : Fault) (q : ℕ) → Typable e t → Typable e u → infer e v ≡ bad f q → infer e (iter p t u v) ≡ bad f q
unfolding infer
iter_bad₃ e p t u v f q k l h = rw (has_infers e t k.0 k.1, has_infers e u l.0 l.1, h) refl

judge_two : (e : Env) (t u w : Tree ℕ) → Judged e t → Judged e u → (Refused e t → Refused e w) → (Typable e t → Refused e u → Refused e w) → (Typable e t → Typable e u → Judged e w) → Judged e w
judge_two e t u w (inr x) j a b c = inr (a x)
judge_two e t u w (inl h) (inr x) a b c = inr (b h x)
judge_two e t u w (inl h) (inl k) a b c = c h k

not_a_pair : (A : Ty) → ((B : Ty) × (C : Ty) × (A ≡ (B ⊗ C))) ⊎ ((B C : Ty) → A ≡ (B ⊗ C) → ⊥)
not_a_pair N = inr (λ B C h. let z : ◌≡◌ {A = ℕ} 0 1 = cc in omega arith)
not_a_pair (A ⇒ B) = inr (λ C D h. let z : ◌≡◌ {A = ℕ} 0 1 = cc in omega arith)
not_a_pair (A ⊗ B) = inl (A, B, refl)

judge : (t : Tree ℕ) (e : Env) → Linear (erase t) → Judged e t
judge (occ p b) e l = settle e (occ p b) tt (node e (occ p b) tt tt)
judge (num p n) e l = settle e (num p n) tt (node e (num p n) tt tt)
judge (succ p t) e l = elim (judge t e l) [
  | inl k ↦ settle e (succ p t) k (node e (succ p t) l k)
  | inr (f, q, a, b) ↦ inr (f, q, in_succ a, succ_bad e p t f q b)
]
judge (lam p x T t) e l = elim (judge t (put e x.place T) l.1) [
  | inl k ↦ settle e (lam p x T t) k (node e (lam p x T t) l k)
  | inr (f, q, a, b) ↦ inr (f, q, in_lam a, lam_bad e p x T t f q b)
]
judge (app p t u) e l = judge_two e t u (app p t u) (judge t e l.0) (judge u e l.1)
    (λ x. (x.0, x.1, in_app₁ x.2, app_bad₁ e p t u x.0 x.1 x.3))
    (λ k x. (x.0, x.1, in_app₂ k x.2, app_bad₂ e p t u x.0 x.1 k x.3))
    (λ k m. settle e (app p t u) (k, m) (node e (app p t u) l (k, m)))
judge (pair p t u) e l = judge_two e t u (pair p t u) (judge t e l.0) (judge u e l.1)
    (λ x. (x.0, x.1, in_pair₁ x.2, pair_bad₁ e p t u x.0 x.1 x.3))
    (λ k x. (x.0, x.1, in_pair₂ k x.2, pair_bad₂ e p t u x.0 x.1 k x.3))
    (λ k m. settle e (pair p t u) (k, m) (node e (pair p t u) l (k, m)))
judge (split p x y t u) e l = elim (judge t e l.3) [
  | inr (f, q, a, b) ↦ inr (f, q, in_split₁ a, split_bad₁ e p x y t u f q b)
  | inl (A, h) ↦ elim (not_a_pair A) [
    | inr n ↦ inr (IllTyped, p, no_pair h n, not_pair e p x y t u A h n)
    | inl (B, C, s) ↦ (
        let k = subst (λ X. Has e t X) s h in
        elim (judge u (put (put e x.place B) y.place C) l.4) [
          | inr (f, q, a, b) ↦ inr (f, q, in_split₂ k a, split_bad₂ e p x y t u B C f q k b)
          | inl m ↦ settle e (split p x y t u) (B, C, k, m) (node e (split p x y t u) l (B, C, k, m))
        ])
  ]
]
judge (iter p t u v) e l = judge_two e t u (iter p t u v) (judge t e l.0) (judge u e l.1)
    (λ x. (x.0, x.1, in_iter₁ x.2, iter_bad₁ e p t u v x.0 x.1 x.3))
    (λ k x. (x.0, x.1, in_iter₂ k x.2, iter_bad₂ e p t u v x.0 x.1 k x.3))
    (λ k m. elim (judge v e l.2) [
      | inl n ↦ settle e (iter p t u v) (k, m, n) (node e (iter p t u v) l (k, m, n))
      | inr x ↦ inr (x.0, x.1, in_iter₃ k m x.2, iter_bad₃ e p t u v x.0 x.1 k m x.3)
    ])

pub inferred : InferredDerived
inferred e t A l h = elim (judge t e l) [
  | inl (B, k) ↦ (let g : good B ≡ good A = sym (has_infers e t B k) ∙ h in let s : B ≡ A = cc in subst (λ X. Has e t X) s k)
  | inr (f, p, a, b) ↦ (let g : bad f p ≡ good A = sym b ∙ h in let z : ◌≡◌ {A = ℕ} 0 1 = cc in absurd (omega arith))
]

pub derived : DerivedInferred
derived e t Γ A h d = complete t e d.derived h d.low

pub linearly : DerivedLinear
linearly Γ t A d = linear d

first_of : (e : Env) (t : Tree ℕ) (f : Fault) (p : ℕ) → Linear (erase t) → infer e t ≡ bad f p → First e t f p
first_of e t f p l h = elim (judge t e l) [
  | inl (B, k) ↦ (let g : good B ≡ bad f p = sym (has_infers e t B k) ∙ h in let z : ◌≡◌ {A = ℕ} 0 1 = cc in absurd (omega arith))
  | inr (f₁, p₁, a, b) ↦ (let g : bad f₁ p₁ ≡ bad f p = sym b ∙ h in let s : f₁ ≡ f = cc in let r : p₁ ≡ p = cc in subst (λ X. First e t X p) s (subst (λ X. First e t f₁ X) r a))
]

of_first : {e : Env} {t : Tree ℕ} {f : Fault} {p : ℕ} → First e t f p → Linear (erase t) → infer e t ≡ bad f p
of_first {e} (no_type t k n) l = elim (node e t l k) [ inl (A, f) ↦ absurd (n A f.derived) | inr b ↦ b ]
of_first {e} (too_high t {A = A} k d h) l = forms e t d (given_agrees e (free (erase t))) k ∙ within_high (place_of t) A h
of_first {e} (no_pair {p = p} {x = x} {y = y} {t = t} {u = u} {A = A} k n) l = not_pair e p x y t u A k n
of_first {e} (in_succ {p = p} {t = t} {f = f} {q = q} a) l = succ_bad e p t f q (of_first a l)
of_first {e} (in_lam {p = p} {x = x} {T = T} {t = t} {f = f} {q = q} a) l = lam_bad e p x T t f q (of_first a l.1)
of_first {e} (in_app₁ {p = p} {t = t} {u = u} {f = f} {q = q} a) l = app_bad₁ e p t u f q (of_first a l.0)
of_first {e} (in_app₂ {p = p} {t = t} {u = u} {f = f} {q = q} k a) l = app_bad₂ e p t u f q k (of_first a l.1)
of_first {e} (in_pair₁ {p = p} {t = t} {u = u} {f = f} {q = q} a) l = pair_bad₁ e p t u f q (of_first a l.0)
of_first {e} (in_pair₂ {p = p} {t = t} {u = u} {f = f} {q = q} k a) l = pair_bad₂ e p t u f q k (of_first a l.1)
of_first {e} (in_split₁ {p = p} {x = x} {y = y} {t = t} {u = u} {f = f} {q = q} a) l = split_bad₁ e p x y t u f q (of_first a l.3)
of_first {e} (in_split₂ {p = p} {x = x} {y = y} {t = t} {u = u} {A = A} {B = B} {f = f} {q = q} k a) l = split_bad₂ e p x y t u A B f q k (of_first a l.4)
of_first {e} (in_iter₁ {p = p} {t = t} {u = u} {v = v} {f = f} {q = q} a) l = iter_bad₁ e p t u v f q (of_first a l.0)
of_first {e} (in_iter₂ {p = p} {t = t} {u = u} {v = v} {f = f} {q = q} k a) l = iter_bad₂ e p t u v f q k (of_first a l.1)
of_first {e} (in_iter₃ {p = p} {t = t} {u = u} {v = v} {f = f} {q = q} k m a) l = iter_bad₃ e p t u v f q k m (of_first a l.2)

pub first : FirstFault
first e t f p l = (first_of e t f p l, λ a. of_first a l)
