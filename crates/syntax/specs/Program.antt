-- Which type a type cell stands for, and which tree a sub-term. Assumes nothing.
use Rattle.std.specs.Prelude.{◌≡◌, ℕ, ◌<◌, List, length, get_or, slice_index_or}
use Rattle.calculus.specs.Types.{Ty, ◌⇒◌, ◌⊗◌}
use Rattle.syntax.specs.declared.program.TypeCell.{TypeCell}
use Rattle.syntax.specs.declared.program.TypeCell.TheVariants as cell
use Rattle.syntax.specs.declared.program.Shape.{Shape}
use Rattle.syntax.specs.declared.program.Shape.TheVariants.{Variable, Number, Successor, Function, Application, Pair, Let, Iterator}
use Rattle.syntax.specs.declared.program.Subterm.{Subterm}
use Rattle.syntax.specs.Trees.{Tree, occ, num, succ, lam, app, pair, split, iter}

abbrev pub DenotesType : List TypeCell → ℕ → Ty → Type 0
DenotesType cells i Ty.N = (i < length cells) × (slice_index_or cells i cell.N ≡ cell.N)
DenotesType cells i (A ⇒ B) = (p : ℕ) × (q : ℕ) × (i < length cells) × (slice_index_or cells i cell.N ≡ cell.Arrow p q) × (p < i) × (q < i) × DenotesType cells p A × DenotesType cells q B
DenotesType cells i (A ⊗ B) = (p : ℕ) × (q : ℕ) × (i < length cells) × (slice_index_or cells i cell.N ≡ cell.Product p q) × (p < i) × (q < i) × DenotesType cells p A × DenotesType cells q B

-- sub-term i has this place and shape
pub record Is (subs : List Subterm) (i place : ℕ) (shape : Shape) : Type 0 where
  pub there : i < length subs
  pub is : get_or subs i (record { place = 0; shape = Number 0 }) ≡ record { place = place; shape = shape }

abbrev pub Denotes : List Subterm → List TypeCell → ℕ → Tree ℕ → Type 0
Denotes subs cells i (occ p b) = Is subs i p (Variable b)
Denotes subs cells i (num p n) = Is subs i p (Number n)
Denotes subs cells i (succ p t) = (j : ℕ) × Is subs i p (Successor j) × (j < i) × Denotes subs cells j t
Denotes subs cells i (lam p x T t) = (a : ℕ) × (j : ℕ) × Is subs i p (Function x.place a j) × (j < i) × DenotesType cells a T × Denotes subs cells j t
Denotes subs cells i (app p t u) = (j : ℕ) × (k : ℕ) × Is subs i p (Application j k) × (j < i) × (k < i) × Denotes subs cells j t × Denotes subs cells k u
Denotes subs cells i (pair p t u) = (j : ℕ) × (k : ℕ) × Is subs i p (Pair j k) × (j < i) × (k < i) × Denotes subs cells j t × Denotes subs cells k u
Denotes subs cells i (split p x y t u) = (j : ℕ) × (k : ℕ) × Is subs i p (Let x.place y.place j k) × (j < i) × (k < i) × Denotes subs cells j t × Denotes subs cells k u
Denotes subs cells i (iter p t u v) = (j : ℕ) × (k : ℕ) × (l : ℕ) × Is subs i p (Iterator j k l) × (j < i) × (k < i) × (l < i) × Denotes subs cells j t × Denotes subs cells k u × Denotes subs cells l v
