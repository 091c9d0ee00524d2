-- What a sub-term's shape says of the tree that it stands for, and what of it lasts as cells are added.
use Rattle.std.proofs.Common.{◌≡◌, ℕ, suc, ◌+◌, ◌<◌, List, ◌++◌, length, get_or, sym, refl, ◌∙◌, subst, arith}
use Rattle.calculus.specs.Types.{Ty}
use Rattle.calculus.specs.Terms.{subterms}
use Rattle.syntax.specs.declared.program.TypeCell.{TypeCell}
use Rattle.syntax.specs.declared.program.Shape.{Shape}
use Rattle.syntax.specs.declared.program.Shape.TheVariants.{Variable, Number, Successor, Function, Application, Pair, Let, Iterator}
use Rattle.syntax.specs.declared.program.Subterm.{Subterm}
use Rattle.syntax.specs.Trees.{Binder, Tree, occ, num, succ, lam, app, pair, split, iter, erase}
use Rattle.syntax.specs.Answer.{Spans}
use Rattle.syntax.specs.Program.{DenotesType, Denotes}
use Rattle.language.proofs.Cells.{denotes_more}

pub record One (subs : List Subterm) (cells : List TypeCell) (i j : ℕ) (how : Tree ℕ → Tree ℕ) (t : Tree ℕ) : Type 0 where
  pub a : Tree ℕ
  pub is : t ≡ how a
  pub less : j < i
  pub part : Denotes subs cells j a

pub record Two (subs : List Subterm) (cells : List TypeCell) (i j k : ℕ) (how : Tree ℕ → Tree ℕ → Tree ℕ) (t : Tree ℕ) : Type 0 where
  pub a : Tree ℕ
  pub b : Tree ℕ
  pub is : t ≡ how a b
  pub less : j < i
  pub less' : k < i
  pub part : Denotes subs cells j a
  pub part' : Denotes subs cells k b

pub record Three (subs : List Subterm) (cells : List TypeCell) (i j k l : ℕ) (how : Tree ℕ → Tree ℕ → Tree ℕ → Tree ℕ) (t : Tree ℕ) : Type 0 where
  pub a : Tree ℕ
  pub b : Tree ℕ
  pub c : Tree ℕ
  pub is : t ≡ how a b c
  pub less : j < i
  pub less' : k < i
  pub less'' : l < i
  pub part : Denotes subs cells j a
  pub part' : Denotes subs cells k b
  pub part'' : Denotes subs cells l c

pub record Lambda (subs : List Subterm) (cells : List TypeCell) (i p v c j : ℕ) (t : Tree ℕ) : Type 0 where
  pub binder : Binder
  pub annotation : Ty
  pub a : Tree ℕ
  pub is : t ≡ lam p binder annotation a
  pub bound : binder.place ≡ v
  pub less : j < i
  pub type : DenotesType cells c annotation
  pub part : Denotes subs cells j a

pub record Split (subs : List Subterm) (cells : List TypeCell) (i p v w j k : ℕ) (t : Tree ℕ) : Type 0 where
  pub binder : Binder
  pub binder' : Binder
  pub a : Tree ℕ
  pub b : Tree ℕ
  pub is : t ≡ split p binder binder' a b
  pub bound : binder.place ≡ v
  pub bound' : binder'.place ≡ w
  pub less : j < i
  pub less' : k < i
  pub part : Denotes subs cells j a
  pub part' : Denotes subs cells k b

-- what a tree is whose sub-term is known
abbrev pub Shaped : List Subterm → List TypeCell → ℕ → ℕ → Shape → Tree ℕ → Type 0
Shaped subs cells i p (Variable v) t = t ≡ occ p v
Shaped subs cells i p (Number n) t = t ≡ num p n
Shaped subs cells i p (Successor j) t = One subs cells i j (succ p) t
Shaped subs cells i p (Function v c j) t = Lambda subs cells i p v c j t
Shaped subs cells i p (Application j k) t = Two subs cells i j k (app p) t
Shaped subs cells i p (Pair j k) t = Two subs cells i j k (pair p) t
Shaped subs cells i p (Let v w j k) t = Split subs cells i p v w j k t
Shaped subs cells i p (Iterator j k l) t = Three subs cells i j k l (iter p) t

-- the default that a read of a sub-term has
abbrev pub blank : Subterm
blank = record { place = 0; shape = Number 0 }

module _ (subs : List Subterm) (cells : List TypeCell) (i : ℕ) where
  shift : (t : Tree ℕ) (x y : Subterm) → x ≡ y → Shaped subs cells i x.place x.shape t → Shaped subs cells i y.place y.shape t
  shift t x y e h = subst (λ z. Shaped subs cells i z.place z.shape t) e h

  pub shaped : (t : Tree ℕ) (x : Subterm) → get_or subs i blank ≡ x → Denotes subs cells i t → Shaped subs cells i x.place x.shape t
  shaped (occ p v) x e h = shift (occ p v) _ x (sym h.is ∙ e) refl
  shaped (num p n) x e h = shift (num p n) _ x (sym h.is ∙ e) refl
  shaped (succ p t) x e (j, h, l, d) = shift (succ p t) _ x (sym h.is ∙ e) (record { a = t; is = refl; less = l; part = d })
  shaped (lam p v T t) x e (c, j, h, l, y, d) =
      shift (lam p v T t) _ x (sym h.is ∙ e) (record { binder = v; annotation = T; a = t; is = refl; bound = refl; less = l; type = y; part = d })
  shaped (app p t u) x e (j, k, h, l, m, d, f) =
      shift (app p t u) _ x (sym h.is ∙ e) (record { a = t; b = u; is = refl; less = l; less' = m; part = d; part' = f })
  shaped (pair p t u) x e (j, k, h, l, m, d, f) =
      shift (pair p t u) _ x (sym h.is ∙ e) (record { a = t; b = u; is = refl; less = l; less' = m; part = d; part' = f })
  shaped (split p v w t u) x e (j, k, h, l, m, d, f) =
      shift (split p v w t u) _ x (sym h.is ∙ e) (record { binder = v; binder' = w; a = t; b = u; is = refl; bound = refl; bound' = refl; less = l; less' = m; part = d; part' = f })
  shaped (iter p t u v) x e (j, k, q, h, l, m, n, d, f, g) =
      shift (iter p t u v) _ x (sym h.is ∙ e) (record { a = t; b = u; c = v; is = refl; less = l; less' = m; less'' = n; part = d; part' = f; part'' = g })

  pub there : (t : Tree ℕ) → Denotes subs cells i t → i < length subs
  there (occ p v) h = h.there
  there (num p n) h = h.there
  there (succ p t) (j, h, l, d) = h.there
  there (lam p v T t) (c, j, h, l, y, d) = h.there
  there (app p t u) (j, k, h, l, m, d, f) = h.there
  there (pair p t u) (j, k, h, l, m, d, f) = h.there
  there (split p v w t u) (j, k, h, l, m, d, f) = h.there
  there (iter p t u v) (j, k, q, h, l, m, n, d, f, g) = h.there

-- a term's sub-terms stand one after another, also as cells are added
pub spans_more : (t : Tree ℕ) (subs : List Subterm) (cells more : List TypeCell) (k i : ℕ) → Spans subs cells k i t → Spans subs (cells ++ more) k i t
spans_more (occ p v) subs cells more k i h = h
spans_more (num p n) subs cells more k i h = h
spans_more (succ p t) subs cells more k i (j, h, e, d) = (j, h, e, spans_more t subs cells more k j d)
spans_more (lam p v T t) subs cells more k i (c, j, h, e, y, d) = (c, j, h, e, denotes_more T cells more c y, spans_more t subs cells more k j d)
spans_more (app p t u) subs cells more k i (j, l, h, e, d, f) = (j, l, h, e, spans_more t subs cells more k j d, spans_more u subs cells more (suc j) l f)
spans_more (pair p t u) subs cells more k i (j, l, h, e, d, f) = (j, l, h, e, spans_more t subs cells more k j d, spans_more u subs cells more (suc j) l f)
spans_more (split p v w t u) subs cells more k i (j, l, h, e, d, f) = (j, l, h, e, spans_more t subs cells more k j d, spans_more u subs cells more (suc j) l f)
spans_more (iter p t u v) subs cells more k i (j, l, m, h, e, d, f, g) = (j, l, m, h, e, spans_more t subs cells more k j d, spans_more u subs cells more (suc j) l f, spans_more v subs cells more (suc l) m g)

-- so that their numbers count them
pub spans_count : (t : Tree ℕ) (subs : List Subterm) (cells : List TypeCell) (k i : ℕ) → Spans subs cells k i t → suc i ≡ k + subterms (erase t)
spans_count (occ p v) subs cells k i h = omega (arith, h.1)
spans_count (num p n) subs cells k i h = omega (arith, h.1)
spans_count (succ p t) subs cells k i (j, h, e, d) = omega (arith, spans_count t subs cells k j d)
spans_count (lam p v T t) subs cells k i (c, j, h, e, y, d) = omega (arith, spans_count t subs cells k j d)
spans_count (app p t u) subs cells k i (j, l, h, e, d, f) = omega (arith, spans_count t subs cells k j d, spans_count u subs cells (suc j) l f)
spans_count (pair p t u) subs cells k i (j, l, h, e, d, f) = omega (arith, spans_count t subs cells k j d, spans_count u subs cells (suc j) l f)
spans_count (split p v w t u) subs cells k i (j, l, h, e, d, f) = omega (arith, spans_count t subs cells k j d, spans_count u subs cells (suc j) l f)
spans_count (iter p t u v) subs cells k i (j, l, m, h, e, d, f, g) = omega (arith, spans_count t subs cells k j d, spans_count u subs cells (suc j) l f, spans_count v subs cells (suc l) m g)

-- what a sub-term stands for lasts as cells are added
pub tree_more : (t : Tree ℕ) (subs : List Subterm) (cells more : List TypeCell) (i : ℕ) → Denotes subs cells i t → Denotes subs (cells ++ more) i t
tree_more (occ p v) subs cells more i h = h
tree_more (num p n) subs cells more i h = h
tree_more (succ p t) subs cells more i (j, h, l, d) = (j, h, l, tree_more t subs cells more j d)
tree_more (lam p v T t) subs cells more i (c, j, h, l, y, d) = (c, j, h, l, denotes_more T cells more c y, tree_more t subs cells more j d)
tree_more (app p t u) subs cells more i (j, k, h, l, m, d, f) = (j, k, h, l, m, tree_more t subs cells more j d, tree_more u subs cells more k f)
tree_more (pair p t u) subs cells more i (j, k, h, l, m, d, f) = (j, k, h, l, m, tree_more t subs cells more j d, tree_more u subs cells more k f)
tree_more (split p v w t u) subs cells more i (j, k, h, l, m, d, f) = (j, k, h, l, m, tree_more t subs cells more j d, tree_more u subs cells more k f)
tree_more (iter p t u v) subs cells more i (j, k, q, h, l, m, n, d, f, g) = (j, k, q, h, l, m, n, tree_more t subs cells more j d, tree_more u subs cells more k f, tree_more v subs cells more q g)
