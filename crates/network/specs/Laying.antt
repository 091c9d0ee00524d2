-- How a part's nodes are laid: those that its construct makes itself, then those of its own parts. Assumes nothing.
use Rattle.std.specs.Prelude.{◌≡◌, ℕ, ◌+◌, ◌≤◌, List, [], ◌∷◌, length}
use Rattle.cells.specs.declared.kinds.Cell.{Cell}
use Rattle.cells.specs.declared.kinds.Kind.TheVariants as kind
use Rattle.calculus.specs.Terms.{Term, iterators, nodes}
use Rattle.geometry.specs.Network.{Made, made}
use Rattle.geometry.specs.Memory.{laid}
use Rattle.syntax.specs.declared.program.Shape.{Shape}
use Rattle.syntax.specs.declared.program.Shape.TheVariants.{Variable, Number, Successor, Function, Application, Pair, Let, Iterator}
use Rattle.network.specs.declared.part.Part.{Part}
use Rattle.network.specs.declared.part.Next.{Next}
use Rattle.network.specs.Parts.{Holds}

-- the nodes that a construct makes itself
abbrev pub own_nodes : Shape → List Made
own_nodes (Variable x) = []
own_nodes (Number n) = (kind.Number, n) ∷ []
own_nodes (Successor t) = (kind.Successor, 0) ∷ []
own_nodes (Function x a t) = (kind.Multiplexer, 0) ∷ []
own_nodes (Application t u) = (kind.Multiplexer, 0) ∷ []
own_nodes (Pair t u) = (kind.Multiplexer, 0) ∷ []
own_nodes (Let x y t u) = (kind.Multiplexer, 0) ∷ []
own_nodes (Iterator t u v) = (kind.Iterator, 0) ∷ (kind.LeftCounter, 0) ∷ (kind.RightCounter, 0) ∷ (kind.Multiplexer, 0) ∷ []

-- one for an iterator
abbrev pub own_iterators : Shape → ℕ
own_iterators (Variable x) = 0
own_iterators (Number n) = 0
own_iterators (Successor t) = 0
own_iterators (Function x a t) = 0
own_iterators (Application t u) = 0
own_iterators (Pair t u) = 0
own_iterators (Let x y t u) = 0
own_iterators (Iterator t u v) = 1

-- part i is the term t, and there are cells and numbers for its nodes
pub record Layable (parts : List Part) (i : ℕ) (next : Next) (size : ℕ) (t : Term) : Type 0 where
  pub holds : Holds parts i t
  pub room : next.node + nodes t ≤ size
  pub few : next.iterator + iterators t ≤ 4294967295

-- these nodes, of which so many begin an iterator, were laid from `next` on, and r has the numbers after them
pub record LaidNodes (ms : List Made) (iterators : ℕ) (next r : Next) (cells cells' : List Cell) : Type 0 where
  pub written : cells' ≡ laid ms next.node cells
  pub node : r.node ≡ next.node + length ms
  pub iterator : r.iterator ≡ next.iterator + iterators

-- the nodes of t were laid
abbrev pub LaidOut : Term → Next → Next → List Cell → List Cell → Type 0
LaidOut t next = LaidNodes (made t next.iterator) (iterators t) next
