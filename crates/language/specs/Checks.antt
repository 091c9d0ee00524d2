-- What the type checker's memory stands for, and what a check leaves in it. Assumes nothing.
use Rattle.std.specs.Prelude.{◌≡◌, ℕ, ◌+◌, ◌*◌, ◌≤◌, List, [], ◌∷◌, ◌++◌, length, Ok, Err, vec_items, Result, slice_index_or}
use Rattle.calculus.specs.Types.{Ty, N, ◌⊗◌}
use Rattle.calculus.specs.Terms.{subterms}
use Rattle.syntax.specs.Trees.{Tree, erase}
use Rattle.syntax.specs.Program.{DenotesType, Denotes}
use Rattle.syntax.specs.declared.program.TypeCell.{TypeCell}
use Rattle.syntax.specs.declared.program.TypeCell.TheVariants as cell
use Rattle.syntax.specs.declared.program.Shape.{Shape}
use Rattle.syntax.specs.declared.program.Shape.TheVariants.{Number}
use Rattle.syntax.specs.declared.program.Subterm.{Subterm}
use Rattle.syntax.specs.declared.refusal.Refusal.{Refusal}
use Rattle.syntax.specs.declared.refusal.Fault.TheVariants.{IllTyped}
use Rattle.language.specs.declared.checker.Checker.{Checker}
use Rattle.language.specs.declared.context.Hypothesis.{Hypothesis}
use Rattle.language.specs.declared.typing.Typing.{Typing}
use Rattle.language.specs.Infer.{Checked, good, bad, within, infer, split_rule, Env}
use Rattle.language.specs.Hypotheses.{cell_of}
use Rattle.language.specs.Measures.{type_room}
use Rattle.language.specs.Judgements.{Judgement, judge, judgements, type_of}

abbrev pub cells_of : Checker → List TypeCell
cells_of m = vec_items m.types.cells

abbrev pub typings_of : Checker → List Typing
typings_of m = vec_items m.typings

abbrev pub context_of : Checker → List Hypothesis
context_of m = vec_items m.context.hypotheses

-- the checker as it begins: the annotations' cells, and N
pub record Begun (cells : List TypeCell) (m : Checker) : Type 0 where
  pub types : cells_of m ≡ cells ++ (cell.N ∷ [])
  pub typings : typings_of m ≡ []
  pub context : context_of m ≡ []
  pub number : m.number ≡ length cells

-- the context has each variable at its type in e
abbrev pub Knows : List TypeCell → ℕ → List Hypothesis → Env → Type 0
Knows cells d hs e = (b : ℕ) → DenotesType cells (cell_of d hs b) (e b)

-- a typing stands for a sub-term and its type
pub record Stands (subs : List Subterm) (cells : List TypeCell) (x : Typing) (j : Judgement) : Type 0 where
  pub term : Denotes subs cells x.subterm j.subject
  pub type : DenotesType cells x.cell j.type

-- typings stand for judgements, one by one
abbrev pub Lists : List Subterm → List TypeCell → List Typing → List Judgement → Type 0
Lists subs cells [] [] = Unit {0}
Lists subs cells [] (j ∷ js) = ⊥
Lists subs cells (x ∷ xs) [] = ⊥
Lists subs cells (x ∷ xs) (j ∷ js) = Stands subs cells x j × Lists subs cells xs js

-- a cell for the type, or the same fault at the same place
abbrev pub Agrees : List TypeCell → Result ℕ Refusal → Checked → Type 0
Agrees cells (Ok c) (good A) = DenotesType cells c A
Agrees cells (Ok c) (bad f p) = ⊥
Agrees cells (Err x) (good A) = ⊥
Agrees cells (Err x) (bad f p) = (x.fault ≡ f) × (x.place ≡ p)

abbrev pub ill_typed : ℕ → Refusal
ill_typed p = record { fault = IllTyped; place = p }

-- the cells of a pair type's two parts, or no type of a pair
abbrev pub Splits : List TypeCell → ℕ → Ty → Result (ℕ × ℕ) Refusal → Type 0
Splits cells p A (Ok c) = (B : Ty) × (C : Ty) × (A ≡ B ⊗ C) × DenotesType cells c.0 B × DenotesType cells c.1 C
Splits cells p A (Err x) = (k : Ty → Ty → Checked) → split_rule p k A ≡ bad x.fault x.place

-- the cell of the type that a rule gives at place p, which is not yet found to be low; or the rule's fault
abbrev pub Gives : List TypeCell → ℕ → Checked → Result ℕ Refusal → Type 0
Gives cells p x (Ok c) = (A : Ty) × DenotesType cells c A × (x ≡ within p A)
Gives cells p x (Err y) = x ≡ bad y.fault y.place

-- sub-term i is a tree under a known context, with room for what its check adds
pub record Ready (subs : List Subterm) (i : ℕ) (m : Checker) : Type 0 where
  pub tree : Tree ℕ
  pub env : Env
  pub denotes : Denotes subs (cells_of m) i tree
  pub knows : Knows (cells_of m) m.number (context_of m) env
  pub numbered : DenotesType (cells_of m) m.number N
  pub types_room : length (cells_of m) + subterms (erase tree) ≤ type_room
  pub typing_room : length (typings_of m) + subterms (erase tree) ≤ 2048
  pub context_room : length (context_of m) + 2 * subterms (erase tree) ≤ 4096

-- sub-term i has this shape, and can be checked
pub record ReadyAs (subs : List Subterm) (i : ℕ) (m : Checker) (s : Shape) : Type 0 where
  pub shape : (slice_index_or subs i (record { place = 0; shape = Number 0 })).shape ≡ s
  pub ready : Ready subs i m

-- at most n cells and these typings were added, and all else is as it was
pub record Grown (n : ℕ) (new : List Typing) (m m' : Checker) : Type 0 where
  pub more : List TypeCell
  pub cells : cells_of m' ≡ cells_of m ++ more
  pub few : length more ≤ n
  pub typings : typings_of m' ≡ typings_of m ++ new
  pub context : context_of m' ≡ context_of m
  pub number : m'.number ≡ m.number

-- the tree has a type, c stands for it, and the typings of its sub-terms were added
pub record Typed (subs : List Subterm) (t : Tree ℕ) (e : Env) (m m' : Checker) (c : ℕ) : Type 0 where
  pub infers : infer e t ≡ good (type_of e t)
  pub denotes : DenotesType (cells_of m') c (type_of e t)
  pub new : List Typing
  pub lists : Lists subs (cells_of m') new (judgements e t)
  pub grown : Grown (subterms (erase t)) new m m'

-- what checking a tree answers and leaves
abbrev pub Outcome : List Subterm → Tree ℕ → Env → Checker → Checker → Result ℕ Refusal → Type 0
Outcome subs t e m m' (Ok c) = Typed subs t e m m' c
Outcome subs t e m m' (Err x) = infer e t ≡ bad x.fault x.place

-- what checking sub-term i answers and leaves
pub record Checks (subs : List Subterm) (i : ℕ) (m m' : Checker) (r : Result ℕ Refusal) : Type 0 where
  pub outcome : (t : Tree ℕ) (e : Env) → Denotes subs (cells_of m) i t → Knows (cells_of m) m.number (context_of m) e → Outcome subs t e m m' r

-- the parts of a tree at p have types, c stands for the type that its rule gives, and the typings of all its sub-terms but itself were added
pub record Built (subs : List Subterm) (p : ℕ) (t : Tree ℕ) (e : Env) (m m' : Checker) (c : ℕ) : Type 0 where
  pub type : Ty
  pub denotes : DenotesType (cells_of m') c type
  pub infers : infer e t ≡ within p type
  pub parts : List Judgement
  pub judged : judgements e t ≡ parts ++ (judge e t ∷ [])
  pub new : List Typing
  pub lists : Lists subs (cells_of m') new parts
  pub grown : Grown (subterms (erase t)) new m m'

-- what checking a tree's parts and asking its rule answers and leaves
abbrev pub Ruled : List Subterm → ℕ → Tree ℕ → Env → Checker → Checker → Result ℕ Refusal → Type 0
Ruled subs p t e m m' (Ok c) = Built subs p t e m m' c
Ruled subs p t e m m' (Err x) = infer e t ≡ bad x.fault x.place

-- the same of sub-term i
pub record Infers (subs : List Subterm) (i : ℕ) (m m' : Checker) (r : Result ℕ Refusal) : Type 0 where
  pub outcome : (t : Tree ℕ) (e : Env) → Denotes subs (cells_of m) i t → Knows (cells_of m) m.number (context_of m) e → Ruled subs (slice_index_or subs i (record { place = 0; shape = Number 0 })).place t e m m' r

-- a typing of sub-term i was added, unless it was refused, and nothing else changed
abbrev pub Noted : ℕ → Checker → Checker → Result ℕ Refusal → Type 0
Noted i m m' (Ok c) = (m'.types ≡ m.types) × (typings_of m' ≡ typings_of m ++ (record { subterm = i; cell = c } ∷ [])) × (m'.context ≡ m.context) × (m'.number ≡ m.number)
Noted i m m' (Err x) = m' ≡ m
