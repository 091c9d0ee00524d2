-- What reading a text answers, and what memory holds then. Assumes nothing.
use Rattle.std.specs.Prelude.{◌≡◌, ℕ, suc, ◌≤◌, List, [], length, Ok, Err, Result}
use Rattle.syntax.specs.declared.program.TypeCell.{TypeCell}
use Rattle.syntax.specs.declared.program.Shape.TheVariants.{Variable, Number, Successor, Function, Application, Pair, Let, Iterator}
use Rattle.syntax.specs.declared.program.Subterm.{Subterm}
use Rattle.syntax.specs.declared.refusal.Refusal.{Refusal}
use Rattle.syntax.specs.Trees.{Tree, occ, num, succ, lam, app, pair, split, iter}
use Rattle.syntax.specs.Program.{Is, DenotesType, Denotes}
use Rattle.syntax.specs.Layout.{top, with_types, with_term}
use Rattle.syntax.specs.Reads.{reads}

-- sub-term i is the term t, and its sub-terms are those from number k to i: its parts stand one after another, and then itself
abbrev pub Spans : List Subterm → List TypeCell → ℕ → ℕ → Tree ℕ → Type 0
Spans subs cells k i (occ p b) = Is subs i p (Variable b) × (i ≡ k)
Spans subs cells k i (num p n) = Is subs i p (Number n) × (i ≡ k)
Spans subs cells k i (succ p t) = (j : ℕ) × Is subs i p (Successor j) × (i ≡ suc j) × Spans subs cells k j t
Spans subs cells k i (lam p x T t) = (a : ℕ) × (j : ℕ) × Is subs i p (Function x.place a j) × (i ≡ suc j) × DenotesType cells a T × Spans subs cells k j t
Spans subs cells k i (app p t u) = (j : ℕ) × (l : ℕ) × Is subs i p (Application j l) × (i ≡ suc l) × Spans subs cells k j t × Spans subs cells (suc j) l u
Spans subs cells k i (pair p t u) = (j : ℕ) × (l : ℕ) × Is subs i p (Pair j l) × (i ≡ suc l) × Spans subs cells k j t × Spans subs cells (suc j) l u
Spans subs cells k i (split p x y t u) = (j : ℕ) × (l : ℕ) × Is subs i p (Let x.place y.place j l) × (i ≡ suc l) × Spans subs cells k j t × Spans subs cells (suc j) l u
Spans subs cells k i (iter p t u v) = (j : ℕ) × (l : ℕ) × (m : ℕ) × Is subs i p (Iterator j l m) × (i ≡ suc m) × Spans subs cells k j t × Spans subs cells (suc j) l u × Spans subs cells (suc l) m v

-- the text is read as a term, which the sub-terms and type cells hold, and nothing else
pub record Accepted (text : List ℕ) (subs : List Subterm) (cells : List TypeCell) (root : ℕ) : Type 0 where
  pub tree : Tree ℕ
  pub is : reads text ≡ Ok tree
  pub subterms : subs ≡ with_term tree [] []
  pub types : cells ≡ with_types tree []
  pub at : root ≡ top subs
  pub few : length subs ≤ 2048
  pub few_types : length cells ≤ 2048
  pub denotes : Denotes subs cells root tree
  pub spans : Spans subs cells 0 root tree

abbrev pub Answers : List ℕ → List Subterm → List TypeCell → Result ℕ Refusal → Type 0
Answers text subs cells (Ok root) = Accepted text subs cells root
Answers text subs cells (Err f) = reads text ≡ Err f

-- a refusal leaves nothing in memory
abbrev pub ReadAs : List ℕ → List Subterm → List TypeCell → Result ℕ Refusal → Type 0
ReadAs text subs cells (Ok root) = Accepted text subs cells root
ReadAs text subs cells (Err f) = (reads text ≡ Err f) × (subs ≡ []) × (cells ≡ [])
