-- Terms as they stand in a text: with the places of their first bytes, and with names. Assumes nothing.
use Rattle.std.specs.Prelude.{ℕ, List}
use Rattle.calculus.specs.Types.{Ty}
use Rattle.calculus.specs.Terms.{Term, var, num as number, succ as successor, lam as function, app as apply, pair as both, split as part, iter as repeat}

-- a name is its letters
abbrev pub Name : Type 0
Name = List ℕ

-- a name where it is bound
pub record Binder : Type 0 where
  pub place : ℕ
  pub name : Name

-- a term with the place of each sub-term; U is what a use of a variable holds: its name, or later its binder's place
pub data Tree (U : Type 0) : Type 0 where
  occ : ℕ → U → Tree U
  num : ℕ → ℕ → Tree U
  succ : ℕ → Tree U → Tree U
  lam : ℕ → Binder → Ty → Tree U → Tree U
  app : ℕ → Tree U → Tree U → Tree U
  pair : ℕ → Tree U → Tree U → Tree U
  split : ℕ → Binder → Binder → Tree U → Tree U → Tree U
  iter : ℕ → Tree U → Tree U → Tree U → Tree U

-- the term alone: a variable is known by the place of its binder's name
abbrev pub erase : Tree ℕ → Term
erase (occ p b) = var b
erase (num p n) = number n
erase (succ p t) = successor (erase t)
erase (lam p x T t) = function x.place T (erase t)
erase (app p t u) = apply (erase t) (erase u)
erase (pair p t u) = both (erase t) (erase u)
erase (split p x y t u) = part x.place y.place (erase t) (erase u)
erase (iter p t u v) = repeat (erase t) (erase u) (erase v)

-- the place of a tree is that of its first byte
abbrev pub place_of : {U : Type 0} → Tree U → ℕ
place_of (occ p b) = p
place_of (num p n) = p
place_of (succ p t) = p
place_of (lam p x T t) = p
place_of (app p t u) = p
place_of (pair p t u) = p
place_of (split p x y t u) = p
place_of (iter p t u v) = p
