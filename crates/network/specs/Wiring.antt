-- How a part is wired: the wires of its construct, then those of its own parts. Assumes nothing.
use Rattle.std.specs.Prelude.{◌≡◌, ℕ, suc, ◌+◌, ◌*◌, ◌<◌, ◌≤◌, List, [], ◌∷◌, ◌++◌, length, filter, None, Option, is_some, unwrap_or, slice_index_or}
use Rattle.cells.specs.declared.kinds.Cell.{Cell}
use Rattle.cells.specs.Ports.{absent}
use Rattle.calculus.specs.Terms.{Term, var, num, succ, lam, app, pair, split, iter, free, subterms, nodes}
use Rattle.geometry.specs.Network.{l1, l2, l3, Env, Wire, EachVariable, crossings, entered, wires}
use Rattle.geometry.specs.Memory.{wired_cells}
use Rattle.geometry.specs.Derivations.{Apart, Distinct}
use Rattle.syntax.specs.declared.program.Shape.{Shape}
use Rattle.syntax.specs.declared.program.Shape.TheVariants.{Variable, Number, Successor, Function, Application, Pair, Let, Iterator}
use Rattle.network.specs.declared.part.Part.{Part}
use Rattle.network.specs.Parts.{Linear, Holds}
use Rattle.network.specs.Laying.{own_nodes}

-- a table has for each variable the port at which its wire starts, where the variable is in force
abbrev pub Table : Type 0
Table = List (Option ℕ)

abbrev pub start_of : Table → ℕ → Option ℕ
start_of starts x = slice_index_or starts x None

-- the table as an environment, in which each variable has a number: for one that is not in force a number that is no port's
abbrev pub starting : Table → Env
starting starts x = unwrap_or (start_of starts x) absent

-- those of the variables that are in force
abbrev pub in_force : Table → List ℕ → List ℕ
in_force starts xs = filter (λ x. is_some (start_of starts x)) xs

-- a table of n ports has a place for each variable of the term
abbrev pub Below : ℕ → Term → Type 0
Below n (var x) = x < n
Below n (num v) = Unit {0}
Below n (succ t) = Below n t
Below n (lam x T t) = (x < n) × Below n t
Below n (app t u) = Below n t × Below n u
Below n (pair t u) = Below n t × Below n u
Below n (split x y t u) = (x < n) × (y < n) × Below n t × Below n u
Below n (iter t u v) = Below n t × Below n u × Below n v

-- part i is the term t, and there is room to list its free uses after those listed
pub record Gatherable (parts : List Part) (i size listed : ℕ) (t : Term) : Type 0 where
  pub holds : Holds parts i t
  pub below : Below size t
  pub room : listed + subterms t ≤ 2048

-- the wires that a construct has itself, but those to its parts
abbrev pub own_wires : Shape → ℕ → ℕ → Env → List Wire
own_wires (Variable x) k r e = (e x, r) ∷ []
own_wires (Number n) k r e = (r, l1 k) ∷ []
own_wires (Successor t) k r e = (r, l2 k) ∷ []
own_wires (Function x a t) k r e = (r, l1 k) ∷ []
own_wires (Application t u) k r e = (r, l2 k) ∷ []
own_wires (Pair t u) k r e = (r, l1 k) ∷ []
own_wires (Let x y t u) k r e = []
own_wires (Iterator t u v) k r e =
    let c = suc k in
    let c' = suc c in
    let m = suc c' in
    (r, l2 k) ∷ ((l3 k, l2 c) ∷ ((l1 c, l1 c') ∷ ((l3 c', l2 m) ∷ ((l3 c, l3 m) ∷ []))))

-- where the shape is a use, its variable starts at a port of the first n nodes
abbrev pub Started : ℕ → Table → Shape → Type 0
Started n starts (Variable x) = (x < length starts) × (starting starts x < 3 * n)
Started n starts (Number v) = Unit {0}
Started n starts (Successor t) = Unit {0}
Started n starts (Function x a t) = Unit {0}
Started n starts (Application t u) = Unit {0}
Started n starts (Pair t u) = Unit {0}
Started n starts (Let x y t u) = Unit {0}
Started n starts (Iterator t u v) = Unit {0}

-- there are n nodes, in as many cells, whose ports have numbers
pub record Numbered (n size : ℕ) : Type 0 where
  pub within : n ≤ size
  pub ports : 3 * n ≤ 4294967295

-- the construct's own wires go between ports of n nodes
pub record Joinable (shape : Shape) (k root : ℕ) (starts : Table) (size : ℕ) : Type 0 where
  pub n : ℕ
  pub numbered : Numbered n size
  pub rooted : root < 3 * n
  pub room : k + length (own_nodes shape) ≤ n
  pub started : Started n starts shape

-- these variables are distinct and start at ports of n nodes, among which are Transfer nodes for them from `first` on
pub record Crossable (uses : List ℕ) (first : ℕ) (starts : Table) (size : ℕ) : Type 0 where
  pub n : ℕ
  pub numbered : Numbered n size
  pub room : first + length uses ≤ n
  pub placed : EachVariable (λ x. x < length starts) uses
  pub started : EachVariable (λ x. starting starts x < 3 * n) uses
  pub distinct : Distinct uses

-- the variables went through the Transfer nodes: they are wired to them outside, and start at them inside
pub record Crossed (uses : List ℕ) (first : ℕ) (starts starts' : Table) (cells cells' : List Cell) : Type 0 where
  pub written : cells' ≡ wired_cells (crossings uses first (starting starts)) cells
  pub inside : (y : ℕ) → starting starts' y ≡ entered uses first (starting starts) y
  pub long : length starts' ≡ length starts

-- part i is the linear term t, whose variables start at ports of n nodes
pub record Ready (parts : List Part) (i : ℕ) (starts : Table) (size n : ℕ) (t : Term) : Type 0 where
  pub numbered : Numbered n size
  pub holds : Holds parts i t
  pub linear : Linear t
  pub small : subterms t ≤ 2048
  pub below : Below (length starts) t
  pub started : EachVariable (λ x. starting starts x < 3 * n) (free t)

-- among the nodes are its own, from k on, and behind these a Transfer node for each free use
pub record Passable (parts : List Part) (i k : ℕ) (starts : Table) (size : ℕ) (t : Term) : Type 0 where
  pub n : ℕ
  pub ready : Ready parts i starts size n t
  pub room : k + nodes t + length (free t) ≤ n

-- and that of the port that its root goes to
pub record Enclosed (parts : List Part) (i k root : ℕ) (starts : Table) (size : ℕ) (t : Term) : Type 0 where
  pub passable : Passable parts i k starts size t
  pub rooted : root < 3 * passable.n

-- among the nodes are its own, from k on, and that of the port that its root goes to
pub record Wirable (parts : List Part) (i k root : ℕ) (starts : Table) (size : ℕ) (t : Term) : Type 0 where
  pub n : ℕ
  pub ready : Ready parts i starts size n t
  pub room : k + nodes t ≤ n
  pub rooted : root < 3 * n

-- the term was wired, and variables that are not free in it start where they did
pub record Wired (t : Term) (k root r : ℕ) (starts starts' : Table) (cells cells' : List Cell) : Type 0 where
  pub next : r ≡ k + nodes t
  pub written : cells' ≡ wired_cells (wires t k root (starting starts)) cells
  pub long : length starts' ≡ length starts
  pub same : (y : ℕ) → Apart y (free t) → starting starts' y ≡ starting starts y

-- the step or the base t was wired inside its Transfer nodes
pub record Passed (t : Term) (k root r : ℕ) (starts starts' : Table) (cells cells' : List Cell) : Type 0 where
  pub next : r ≡ k + nodes t + length (free t)
  pub written : cells' ≡ wired_cells (crossings (free t) (k + nodes t) (starting starts) ++ wires t k root (entered (free t) (k + nodes t) (starting starts))) cells
  pub long : length starts' ≡ length starts
  pub same : (y : ℕ) → Apart y (free t) → starting starts' y ≡ starting starts y
