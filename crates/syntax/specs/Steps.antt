-- What the reading functions promise: each answers as the reading of signs does. Assumes nothing.
use Rattle.std.specs.Prelude.{◌≡◌, ℕ, suc, ◌+◌, ◌++◌, ◌-◌, ◌*◌, ◌<◌, ◌≤◌, Bool, true, false, cond, ◌&&◌, List, [], ◌∷◌, length, take, Ok, Err, vec_items, Result, nat_lt}
use Rattle.calculus.specs.Types.{Ty}
use Rattle.syntax.specs.declared.refusal.Refusal.{Refusal}
use Rattle.syntax.specs.declared.refusal.Fault.{Fault}
use Rattle.syntax.specs.declared.refusal.Fault.TheVariants.{WrongSign, LargeNumber}
use Rattle.syntax.specs.declared.names.Binder.{Binder as ReadBinder}
use Rattle.syntax.specs.declared.names.Head.{Head}
use Rattle.syntax.specs.declared.names.Rest.{Rest}
use Rattle.syntax.specs.declared.names.Start.{Start}
use Rattle.syntax.specs.declared.names.First.{First}
use Rattle.syntax.specs.declared.names.First.TheVariants as first
use Rattle.syntax.specs.declared.program.Shape.{Shape}
use Rattle.syntax.specs.declared.program.Subterm.{Subterm}
use Rattle.syntax.specs.declared.program.TypeCell.{TypeCell}
use Rattle.syntax.specs.declared.program.TypeCell.TheVariants as cell
use Rattle.syntax.specs.declared.scope.Scope.{Scope}
use Rattle.syntax.specs.declared.signs.Joint.{Joint}
use Rattle.syntax.specs.declared.tables.Program.{Program}
use Rattle.syntax.specs.declared.signs.Joint.TheVariants.{Arrow, Product}
use Rattle.syntax.specs.Layout.{top, push, with_type, with_types, with_term}
use Rattle.syntax.specs.Trees.{Name, Binder, Tree, occ, num}
use Rattle.syntax.specs.Names.{resolve}
use Rattle.syntax.specs.Scopes.{Names, leave, visit}
use Rattle.syntax.specs.Held.{names_of, binders_of}
use Rattle.syntax.specs.Signs.{Placed, blank, lex, is_number, number_of}
use Rattle.syntax.specs.Parse.{Out, got, refused, limited, TermReader, successor, function, application, couple, let_in, iterator, term_by, term}

-- what is left once blanks are passed
abbrev pub skipped : List ℕ → List ℕ
skipped [] = []
skipped (b ∷ s) = cond (blank b) (skipped s) (b ∷ s)

-- how many bytes of this kind stand at the front
abbrev pub run : (ℕ → Bool) → List ℕ → ℕ
run kind [] = 0
run kind (b ∷ s) = cond (kind b) (suc (run kind s)) 0

-- the signs of what is left
abbrev pub signs_in : Rest → List Placed
signs_in rest = lex rest.end rest.bytes.now

-- the place of its first byte
abbrev pub place_of : Rest → ℕ
place_of rest = rest.end - length rest.bytes.now

-- the answer is o: its value held by R and the signs after it, to the same end, or its refusal
abbrev pub Gives : {A B : Type 0} → ℕ → (A → B → Type 0) → Out A → Result (B × Rest) Refusal → Type 0
Gives {A} end R o (Ok p) = (a : A) × (o ≡ got a (lex end p.1.bytes.now)) × R a p.0 × (p.1.end ≡ end)
Gives end R o (Err f) = o ≡ refused f

-- the same without a value
abbrev pub Passes : ℕ → Out (Unit {0}) → Result Rest Refusal → Type 0
Passes end o (Ok p) = (o ≡ got tt (lex end p.bytes.now)) × (p.end ≡ end)
Passes end o (Err f) = o ≡ refused f

-- a run of digits as a number, if it is one within the limit
abbrev pub Counted : List ℕ → Result ℕ Fault → Type 0
Counted ds (Ok n) = (is_number ds ≡ true) × (n ≡ number_of ds) × (number_of ds ≤ 1000000000)
Counted ds (Err f) = elim (is_number ds) [ true ↦ (f ≡ LargeNumber) × (1000000000 < number_of ds) | false ↦ f ≡ WrongSign ]

-- the binder that is read
abbrev pub binder_at : ReadBinder → Binder
binder_at x = record { place = x.place; name = x.name.now }

abbrev pub cell_of : Joint → ℕ → ℕ → TypeCell
cell_of Arrow i j = cell.Arrow i j
cell_of Product i j = cell.Product i j

-- a type cell was put after the others, as number i
pub record IsTypePut (cell : TypeCell) (program program' : Program) (i : ℕ) : Type 0 where
  pub types : vec_items program'.types ≡ vec_items program.types ++ (cell ∷ [])
  pub subterms : vec_items program'.subterms ≡ vec_items program.subterms
  pub at : i ≡ length (vec_items program.types)

-- the type, with the count of type signs, was put after the cells as cell i; `more` type signs wait for their cells
pub record TypeHeld (more : ℕ) (program program' : Program) (a : Ty × ℕ) (i : ℕ) : Type 0 where
  pub put : vec_items program'.types ≡ with_type a.0 (vec_items program.types)
  pub at : i ≡ top (vec_items program'.types)
  pub counted : a.1 ≡ length (vec_items program'.types) + more
  pub few : a.1 ≤ 2048
  pub subterms : vec_items program'.subterms ≡ vec_items program.subterms

-- a binder, with a name that memory can hold
pub record IsBinder (x : Binder) (y : ReadBinder) : Type 0 where
  pub is : x ≡ binder_at y
  pub short : length y.name.now ≤ 16

abbrev pub AreBinders : Binder × Binder → ReadBinder × ReadBinder → Type 0
AreBinders a b = IsBinder a.0 b.0 × IsBinder a.1 b.1

-- what stands before the body of a function; its type was put after the cells
pub record HeadHeld (program program' : Program) (a : Binder × Ty × ℕ) (h : Head) : Type 0 where
  pub binder : IsBinder a.0 h.binder
  pub type : TypeHeld 0 program program' (a.1, a.2) h.annotation

-- what is read after the first sign, at p, by what that sign tells
abbrev pub by_first : ℕ → TermReader → ℕ → First → TermReader
by_first end part p (first.Name w) n m s = got (occ p w.now, n, m) s
by_first end part p (first.Number k) n m s = got (num p k, n, m) s
by_first end part p first.Successor n m s = successor part p n m s
by_first end part p first.Function n m s = function end part p n m s
by_first end part p first.Application n m s = application end part p n m s
by_first end part p first.Pair n m s = couple end part p n m s
by_first end part p first.Let n m s = let_in end part p n m s
by_first end part p first.Iterator n m s = iterator part p n m s

-- a text that begins with a sign, by what it tells: whatever reads the parts, and however many sub-terms and type signs stand before
abbrev pub Opens : ℕ → List ℕ → Result (First × Rest) Refusal → Type 0
Opens end s (Ok r) = ((fits : Bool) (part : TermReader) (n m : ℕ) → term_by end fits part n m (lex end s) ≡ limited (fits && nat_lt n 2048) (end - length s) (by_first end part (end - length s) r.0 (suc n) m (lex end r.1.bytes.now))) × (r.1.end ≡ end)
Opens end s (Err f) = (fits : Bool) (part : TermReader) (n m : ℕ) → term_by end fits part n m (lex end s) ≡ refused f

-- a term read inside `depth` others: what it puts after sub-terms and type cells, and what it does to names
pub record TermHeld (depth : ℕ) (subs : List Subterm) (cells : List TypeCell) (names : Names) (subs' : List Subterm) (cells' : List TypeCell) (names' : Names) (a : Tree Name × ℕ × ℕ) (i : ℕ) : Type 0 where
  pub term : subs' ≡ with_term (resolve (binders_of names.force) a.0) subs cells
  pub types : cells' ≡ with_types (resolve (binders_of names.force) a.0) cells
  pub at : i ≡ top subs'
  pub visited : names' ≡ visit a.0 names
  pub counted : a.1 ≡ length subs' + depth
  pub few : a.1 ≤ 2048
  pub signs : a.2 ≡ length cells'
  pub few_signs : a.2 ≤ 2048
  pub bound : length names'.bound ≤ 2 * (length subs' + depth)

-- what a reader of terms may count on: there is room for what it may put
pub record Room (depth : ℕ) (subs : List Subterm) (cells : List TypeCell) (names : Names) : Type 0 where
  pub few : length subs + depth ≤ 2048
  pub signs : length cells ≤ 2048
  pub bound : length names.bound ≤ 2 * (length subs + depth)
  pub force : length names.force ≤ 2 * depth

-- the same of a program and of names as memory holds them
abbrev pub TermGives : ℕ → ℕ → Program → Scope → Program → Scope → Out (Tree Name × ℕ × ℕ) → Result (ℕ × Rest) Refusal → Type 0
TermGives end depth program scope program' scope' o r =
    Gives end (TermHeld depth (vec_items program.subterms) (vec_items program.types) (names_of scope) (vec_items program'.subterms) (vec_items program'.types) (names_of scope')) o r

abbrev pub HasRoom : ℕ → Program → Scope → Type 0
HasRoom depth program scope = Room depth (vec_items program.subterms) (vec_items program.types) (names_of scope)

abbrev pub Holds : ℕ → Program → Scope → Program → Names → Tree Name × ℕ × ℕ → ℕ → Type 0
Holds depth program scope program' names' a i = TermHeld depth (vec_items program.subterms) (vec_items program.types) (names_of scope) (vec_items program'.subterms) (vec_items program'.types) names' a i

-- how many sub-terms stand before one inside `depth` others: those put, and those around it
abbrev pub begun : ℕ → Program → ℕ
begun depth program = length (vec_items program.subterms) + depth

-- how many type signs
abbrev pub signed : Program → ℕ
signed program = length (vec_items program.types)

-- the binders of the names in force
abbrev pub in_force_in : Scope → List Binder
in_force_in scope = binders_of (names_of scope).force

-- a sub-term was put after the others, as number i
pub record IsPut (place : ℕ) (shape : Shape) (program program' : Program) (i : ℕ) : Type 0 where
  pub subterms : vec_items program'.subterms ≡ push place shape (vec_items program.subterms)
  pub types : vec_items program'.types ≡ vec_items program.types
  pub at : i ≡ length (vec_items program.subterms)

-- reading inside `depth` others answers as o does; whatever it answers, the names in force are again those that were
pub record TermRead (end depth : ℕ) (program : Program) (scope : Scope) (program' : Program) (scope' : Scope) (o : Out (Tree Name × ℕ × ℕ)) (r : Result (ℕ × Rest) Refusal) : Type 0 where
  pub gives : TermGives end depth program scope program' scope' o r
  pub kept : in_force_in scope' ≡ in_force_in scope

-- a sub-term that begins here is within the limits, and was counted
pub record IsCounted (start : Start) (program : Program) (scope : Scope) : Type 0 where
  pub room : HasRoom start.depth program scope
  pub deep : start.depth < 128
  pub few : begun start.depth program < 2048

-- what reads the parts of a sub-term
abbrev pub part_of : ℕ → Start → TermReader
part_of end start = term end (128 - (start.depth + 1))

-- what follows the first sign is read as that sign tells
abbrev pub Follows : First → Start → Rest → Program → Scope → Program → Scope → Result (ℕ × Rest) Refusal → Type 0
Follows sign start rest program scope program' scope' r =
    TermRead rest.end start.depth program scope program' scope' (by_first rest.end (part_of rest.end start) start.place sign (suc (begun start.depth program)) (signed program) (signs_in rest)) r

-- a part was read as the body of a binder, whose names are those in force from number `before` on: they left at its end
pub record BodyHeld (before depth : ℕ) (program : Program) (scope : Scope) (program' : Program) (names' : Names) (a : Tree Name × ℕ × ℕ) (i : ℕ) : Type 0 where
  pub late : Names
  pub held : Holds depth program scope program' late a i
  pub left : names' ≡ leave before late

-- whatever reading a body answers, its names are out of force
pub record BodyRead (end : ℕ) (start : Start) (before : ℕ) (text : List ℕ) (program : Program) (scope : Scope) (program' : Program) (scope' : Scope) (r : Result (ℕ × Rest) Refusal) : Type 0 where
  pub gives : Gives end (BodyHeld before (start.depth + 1) program scope program' (names_of scope')) (part_of end start (begun (start.depth + 1) program) (signed program) (lex end text)) r
  pub kept : in_force_in scope' ≡ take before (in_force_in scope)
