-- The sub-terms of a program as building sees them: which term each is, with its counts. Assumes nothing.
use Rattle.std.specs.Prelude.{◌≡◌, ℕ, ◌<◌, List, length, slice_index_or}
use Rattle.calculus.specs.Types.{Ty}
use Rattle.calculus.specs.Terms.{Term, var, num, succ, lam, app, pair, split, iter, free, nodes}
use Rattle.calculus.specs.Typing.{Ctx, Typed}
use Rattle.geometry.specs.Derivations.{names, Distinct}
use Rattle.syntax.specs.declared.program.Shape.{Shape}
use Rattle.syntax.specs.declared.program.Shape.TheVariants.{Variable, Number, Successor, Function, Application, Pair, Let, Iterator}
use Rattle.network.specs.declared.part.Part.{Part}
use Rattle.network.specs.declared.part.Count.{Count}

-- a term that some context derives, with no variable twice: so each is used once
pub record Linear (t : Term) : Type 0 where
  pub context : Ctx
  pub type : Ty
  pub derived : Typed context t type
  pub once : Distinct (names context)

-- stands for a part that is not there
abbrev pub no_part : Part
no_part = record { shape = Variable 0; count = record { nodes = 0; uses = 0 } }

-- the nodes that a term makes, and its free uses
abbrev pub counted : Term → Count
counted t = record { nodes = nodes t; uses = length (free t) }

-- part i has this shape, and the counts of the term t
pub record Is (parts : List Part) (i : ℕ) (shape : Shape) (t : Term) : Type 0 where
  pub there : i < length parts
  pub is : slice_index_or parts i no_part ≡ record { shape = shape; count = counted t }

-- part i is the term t, and its own parts are those of t
abbrev pub Holds : List Part → ℕ → Term → Type 0
Holds parts i (var x) = Is parts i (Variable x) (var x)
Holds parts i (num n) = Is parts i (Number n) (num n)
Holds parts i (succ t) = (j : ℕ) × Is parts i (Successor j) (succ t) × (j < i) × Holds parts j t
Holds parts i (lam x T t) = (a : ℕ) × (j : ℕ) × Is parts i (Function x a j) (lam x T t) × (j < i) × Holds parts j t
Holds parts i (app t u) = (j : ℕ) × (k : ℕ) × Is parts i (Application j k) (app t u) × (j < i) × (k < i) × Holds parts j t × Holds parts k u
Holds parts i (pair t u) = (j : ℕ) × (k : ℕ) × Is parts i (Pair j k) (pair t u) × (j < i) × (k < i) × Holds parts j t × Holds parts k u
Holds parts i (split x y t u) = (j : ℕ) × (k : ℕ) × Is parts i (Let x y j k) (split x y t u) × (j < i) × (k < i) × Holds parts j t × Holds parts k u
Holds parts i (iter t u v) = (j : ℕ) × (k : ℕ) × (l : ℕ) × Is parts i (Iterator j k l) (iter t u v) × (j < i) × (k < i) × (l < i) × Holds parts j t × Holds parts k u × Holds parts l v
