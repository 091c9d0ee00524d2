-- How a program is laid out in memory: parts before wholes, left before right. Assumes nothing.
use Rattle.std.specs.Prelude.{ℕ, ◌-◌, List, [], ◌∷◌, ◌++◌, length}
use Rattle.calculus.specs.Types.{Ty, ◌⇒◌, ◌⊗◌}
use Rattle.syntax.specs.declared.program.TypeCell.{TypeCell}
use Rattle.syntax.specs.declared.program.TypeCell.TheVariants as cell
use Rattle.syntax.specs.declared.program.Shape.{Shape}
use Rattle.syntax.specs.declared.program.Shape.TheVariants.{Variable, Number, Successor, Function, Application, Pair, Let, Iterator}
use Rattle.syntax.specs.declared.program.Subterm.{Subterm}
use Rattle.syntax.specs.Trees.{Tree, occ, num, succ, lam, app, pair, split, iter}

-- the number of the last one
abbrev pub top : {A : Type 0} → List A → ℕ
top xs = length xs - 1

-- the cells once a type is put after them: those of its parts, then its own
abbrev pub with_type : Ty → List TypeCell → List TypeCell
with_type Ty.N cells = cells ++ (cell.N ∷ [])
with_type (A ⇒ B) cells = with_type B (with_type A cells) ++ (cell.Arrow (top (with_type A cells)) (top (with_type B (with_type A cells))) ∷ [])
with_type (A ⊗ B) cells = with_type B (with_type A cells) ++ (cell.Product (top (with_type A cells)) (top (with_type B (with_type A cells))) ∷ [])

-- the type cells once those of a term's annotations are put after them
abbrev pub with_types : Tree ℕ → List TypeCell → List TypeCell
with_types (occ p b) cells = cells
with_types (num p n) cells = cells
with_types (succ p t) cells = with_types t cells
with_types (lam p x T t) cells = with_types t (with_type T cells)
with_types (app p t u) cells = with_types u (with_types t cells)
with_types (pair p t u) cells = with_types u (with_types t cells)
with_types (split p x y t u) cells = with_types u (with_types t cells)
with_types (iter p t u v) cells = with_types v (with_types u (with_types t cells))

-- one more sub-term
abbrev pub push : ℕ → Shape → List Subterm → List Subterm
push p shape subs = subs ++ (record { place = p; shape = shape } ∷ [])

-- the sub-terms once those of a term are put after them, over these type cells
abbrev pub with_term : Tree ℕ → List Subterm → List TypeCell → List Subterm
with_term (occ p b) subs cells = push p (Variable b) subs
with_term (num p n) subs cells = push p (Number n) subs
with_term (succ p t) subs cells = let s = with_term t subs cells in push p (Successor (top s)) s
with_term (lam p x T t) subs cells = let s = with_term t subs (with_type T cells) in push p (Function x.place (top (with_type T cells)) (top s)) s
with_term (app p t u) subs cells =
    let s = with_term t subs cells in
    let r = with_term u s (with_types t cells) in
    push p (Application (top s) (top r)) r
with_term (pair p t u) subs cells =
    let s = with_term t subs cells in
    let r = with_term u s (with_types t cells) in
    push p (Pair (top s) (top r)) r
with_term (split p x y t u) subs cells =
    let s = with_term t subs cells in
    let r = with_term u s (with_types t cells) in
    push p (Let x.place y.place (top s) (top r)) r
with_term (iter p t u v) subs cells =
    let s = with_term t subs cells in
    let r = with_term u s (with_types t cells) in
    let q = with_term v r (with_types u (with_types t cells)) in
    push p (Iterator (top s) (top r) (top q)) q
