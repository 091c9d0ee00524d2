-- What a part's shape says of the term that it is.
use Rattle.std.proofs.Common.{◌≡◌, ℕ, ◌<◌, List, ◌++◌, get_or, sym, refl, ap, ◌∙◌, subst, arith, length-append}
use Rattle.std.proofs.lemmas.List.{get_or_append_left}
use Rattle.calculus.specs.Types.{Ty}
use Rattle.calculus.specs.Terms.{Term, var, num, succ, lam, app, pair, split, iter}
use Rattle.syntax.specs.declared.program.Shape.{Shape}
use Rattle.syntax.specs.declared.program.Shape.TheVariants.{Variable, Number, Successor, Function, Application, Pair, Let, Iterator}
use Rattle.network.specs.declared.part.Part.{Part}
use Rattle.network.specs.Parts.{no_part, counted, Is, Holds}

-- the term is one of this shape, and its parts are those named
abbrev pub Opened : List Part → ℕ → Shape → Term → Type 0
Opened parts i (Variable x) t = t ≡ var x
Opened parts i (Number n) t = t ≡ num n
Opened parts i (Successor j) t = (a : Term) × (t ≡ succ a) × (j < i) × Holds parts j a
Opened parts i (Function x n j) t = (T : Ty) × (a : Term) × (t ≡ lam x T a) × (j < i) × Holds parts j a
Opened parts i (Application j k) t = (a : Term) × (b : Term) × (t ≡ app a b) × (j < i) × (k < i) × Holds parts j a × Holds parts k b
Opened parts i (Pair j k) t = (a : Term) × (b : Term) × (t ≡ pair a b) × (j < i) × (k < i) × Holds parts j a × Holds parts k b
Opened parts i (Let x y j k) t = (a : Term) × (b : Term) × (t ≡ split x y a b) × (j < i) × (k < i) × Holds parts j a × Holds parts k b
Opened parts i (Iterator j k l) t = (a : Term) × (b : Term) × (c : Term) × (t ≡ iter a b c) × (j < i) × (k < i) × (l < i) × Holds parts j a × Holds parts k b × Holds parts l c

module _ (parts : List Part) (i : ℕ) where
  moved : (t : Term) (p q : Part) → p ≡ q → Opened parts i p.shape t → Opened parts i q.shape t
  moved t p q e h = subst (λ r. Opened parts i r.shape t) e h

  opened : (t : Term) (p : Part) → get_or parts i no_part ≡ p → Holds parts i t → Opened parts i p.shape t
  opened (var x) p e h = moved (var x) _ p (sym h.is ∙ e) refl
  opened (num n) p e h = moved (num n) _ p (sym h.is ∙ e) refl
  opened (succ t) p e (j, h, l, d) = moved (succ t) _ p (sym h.is ∙ e) (t, refl, l, d)
  opened (lam x T t) p e (n, j, h, l, d) = moved (lam x T t) _ p (sym h.is ∙ e) (T, t, refl, l, d)
  opened (app t u) p e (j, k, h, l, m, d, f) = moved (app t u) _ p (sym h.is ∙ e) (t, u, refl, l, m, d, f)
  opened (pair t u) p e (j, k, h, l, m, d, f) = moved (pair t u) _ p (sym h.is ∙ e) (t, u, refl, l, m, d, f)
  opened (split x y t u) p e (j, k, h, l, m, d, f) = moved (split x y t u) _ p (sym h.is ∙ e) (t, u, refl, l, m, d, f)
  opened (iter t u v) p e (j, k, q, h, l, m, n, d, f, g) = moved (iter t u v) _ p (sym h.is ∙ e) (t, u, v, refl, l, m, n, d, f, g)

  -- its counts are those of the term
  pub held : (t : Term) → Holds parts i t → (get_or parts i no_part).count ≡ counted t
  held (var x) h = ap (λ p. p.count) h.is
  held (num n) h = ap (λ p. p.count) h.is
  held (succ t) (j, h, l, d) = ap (λ p. p.count) h.is
  held (lam x T t) (n, j, h, l, d) = ap (λ p. p.count) h.is
  held (app t u) (j, k, h, l, m, d, f) = ap (λ p. p.count) h.is
  held (pair t u) (j, k, h, l, m, d, f) = ap (λ p. p.count) h.is
  held (split x y t u) (j, k, h, l, m, d, f) = ap (λ p. p.count) h.is
  held (iter t u v) (j, k, q, h, l, m, n, d, f, g) = ap (λ p. p.count) h.is

  pub shaped : (t : Term) (p : Part) (s : Shape) → get_or parts i no_part ≡ p → p.shape ≡ s → Holds parts i t → Opened parts i s t
  shaped t p s e f h = subst (λ r. Opened parts i r t) f (opened t p e h)

-- a part is the same term when parts are added
is_more : (parts more : List Part) (i : ℕ) (s : Shape) (t : Term) → Is parts i s t → Is (parts ++ more) i s t
is_more parts more i s t h = record { there = omega (arith, h.there, length-append parts more); is = get_or_append_left parts more no_part i h.there ∙ h.is }

pub holds_more : (t : Term) (parts more : List Part) (i : ℕ) → Holds parts i t → Holds (parts ++ more) i t
holds_more (var x) parts more i h = is_more parts more i _ _ h
holds_more (num n) parts more i h = is_more parts more i _ _ h
holds_more (succ t) parts more i (j, h, l, d) = (j, is_more parts more i _ _ h, l, holds_more t parts more j d)
holds_more (lam x T t) parts more i (n, j, h, l, d) = (n, j, is_more parts more i _ _ h, l, holds_more t parts more j d)
holds_more (app t u) parts more i (j, k, h, l, m, d, f) = (j, k, is_more parts more i _ _ h, l, m, holds_more t parts more j d, holds_more u parts more k f)
holds_more (pair t u) parts more i (j, k, h, l, m, d, f) = (j, k, is_more parts more i _ _ h, l, m, holds_more t parts more j d, holds_more u parts more k f)
holds_more (split x y t u) parts more i (j, k, h, l, m, d, f) = (j, k, is_more parts more i _ _ h, l, m, holds_more t parts more j d, holds_more u parts more k f)
holds_more (iter t u v) parts more i (j, k, q, h, l, m, n, d, f, g) = (j, k, q, is_more parts more i _ _ h, l, m, n, holds_more t parts more j d, holds_more u parts more k f, holds_more v parts more q g)
