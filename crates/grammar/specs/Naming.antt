-- That names are checked exactly: bound once in the text, in force where they occur, and used once. Assumes nothing.
use Rattle.std.specs.Prelude.{◌≡◌, ℕ, false, ◌↔◌, List, [], ◌∷◌, ◌++◌, Some, None, ◌≢◌}
use mathlib.Core.List.{Memᴰ}
use Rattle.calculus.specs.Terms.{free}
use Rattle.syntax.specs.declared.refusal.Fault.TheVariants.{Unbound, BoundTwice, UsedTwice, Unused}
use Rattle.syntax.specs.declared.refusal.Refusal.{Refusal}
use Rattle.syntax.specs.Trees.{Name, Binder, Tree, occ, num, succ, lam, app, pair, split, iter, erase}
use Rattle.syntax.specs.Grammar.{Spells}
use Rattle.syntax.specs.Names.{resolve, binders, fault, before, name_fault}
use Rattle.grammar.specs.Uses.{Linear}

-- none of the binders has the name w
abbrev pub Unlike : Name → List Binder → Type 0
Unlike w [] = Unit {0}
Unlike w (x ∷ xs) = (w ≢ x.name) × Unlike w xs

-- no two of them have one name
abbrev pub Distinct : List Binder → Type 0
Distinct [] = Unit {0}
Distinct (x ∷ xs) = Unlike x.name xs × Distinct xs

-- each name is bound once in the text, each binder used once in its scope, and each occurrence bound
pub record WellNamed (t : Tree Name) : Type 0 where
  pub once : Distinct (binders t)
  pub linear : Linear (erase (resolve [] t))
  pub closed : free (erase (resolve [] t)) ≡ []

-- a text has no fault of names exactly when its names are such
abbrev pub NamesRight : Type 0
NamesRight = (text : List ℕ) (t : Tree Name) → Spells text t → (name_fault t ≡ None) ↔ WellNamed t

-- the occurrences in a resolved term, in the order of the text: the place of each, and that of its binder, which is its own where there is none
abbrev pub uses : Tree ℕ → List (ℕ × ℕ)
uses (occ p b) = (p, b) ∷ []
uses (num p n) = []
uses (succ p t) = uses t
uses (lam p x T t) = uses t
uses (app p t u) = uses t ++ uses u
uses (pair p t u) = uses t ++ uses u
uses (split p x y t u) = uses t ++ uses u
uses (iter p t u v) = uses t ++ (uses u ++ uses v)

-- the faults of names
pub data NameFault (t : Tree Name) : Refusal → Type 0 where
  -- an occurrence without a binder
  without_binder : {p : ℕ} → Memᴰ (p, p) (uses (resolve [] t)) → NameFault t (fault Unbound p)
  -- a binder whose name an earlier one has
  name_taken : (front rest : List Binder) (x y : Binder) → binders t ≡ front ++ (x ∷ rest) → Memᴰ y front → y.name ≡ x.name → NameFault t (fault BoundTwice x.place)
  -- an occurrence of a binder that has an earlier one
  second_use : (front rest : List (ℕ × ℕ)) (x : Binder) (p q : ℕ) → Memᴰ x (binders t) → uses (resolve [] t) ≡ front ++ ((p, x.place) ∷ rest) → Memᴰ (q, x.place) front → NameFault t (fault UsedTwice p)
  -- a binder without an occurrence
  no_use : (x : Binder) → Memᴰ x (binders t) → ((p : ℕ) → Memᴰ (p, x.place) (uses (resolve [] t)) → ⊥) → NameFault t (fault Unused x.place)

-- the fault of names that is reported: no other goes before it, by its place and then by its number
pub record Least (t : Tree Name) (f : Refusal) : Type 0 where
  pub fault : NameFault t f
  pub first : (g : Refusal) → NameFault t g → before g f ≡ false

abbrev pub NamesLeast : Type 0
NamesLeast = (text : List ℕ) (t : Tree Name) (f : Refusal) → Spells text t → (name_fault t ≡ Some f) ↔ Least t f
