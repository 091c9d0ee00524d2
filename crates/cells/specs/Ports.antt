-- What a step sees of a network: nodes with a kind, a value and three links, and the ports by their numbers. Assumes nothing.
use Rattle.std.specs.Prelude.{◌≡◌, ℕ, ◌+◌, ◌*◌, ◌/◌, ◌%◌, Bool, cond, not, ◌&&◌, List, [], ◌∷◌, length, Some, None, Option, Ok, Err, Result, ◌==◌, nat_lt, slice_index, slice_index_or}
use Rattle.cells.specs.declared.kinds.Kind.{Kind}
use Rattle.cells.specs.declared.kinds.Kind.TheVariants.{Root, Number, Successor, Multiplexer, Iterator, LeftCounter, RightCounter, Transfer}
use Rattle.cells.specs.declared.kinds.Port.{Port}
use Rattle.cells.specs.declared.kinds.Port.TheVariants.{First, Second, Third}
use Rattle.cells.specs.declared.kinds.Cell.{Cell}
use Rattle.cells.specs.declared.kinds.UnknownKind.{UnknownKind}

-- a node: its kind, where the cell's number is that of one; its value and its three links
pub record Node : Type 0 where
  pub kind : Option Kind
  pub value : ℕ
  pub one : ℕ
  pub two : ℕ
  pub three : ℕ

-- the kinds by their numbers
abbrev pub kind_number : Kind → ℕ
kind_number Root = 0
kind_number Number = 1
kind_number Successor = 2
kind_number Multiplexer = 3
kind_number Iterator = 4
kind_number LeftCounter = 5
kind_number RightCounter = 6
kind_number Transfer = 7

abbrev pub kind_of : ℕ → Option Kind
kind_of n =
    cond (n == 0) (Some Root) (cond (n == 1) (Some Number) (cond (n == 2) (Some Successor) (cond (n == 3) (Some Multiplexer)
    (cond (n == 4) (Some Iterator) (cond (n == 5) (Some LeftCounter) (cond (n == 6) (Some RightCounter) (cond (n == 7) (Some Transfer) None)))))))

-- the kind that a number names, or the number again where it names none
abbrev pub KindNamed : ℕ → Result Kind UnknownKind → Type 0
KindNamed n (Ok κ) = kind_of n ≡ Some κ
KindNamed n (Err e) = (kind_of n ≡ None) × (e.0 ≡ n)

-- how many ports a kind has
abbrev pub arity : Kind → ℕ
arity Root = 1
arity Number = 1
arity Successor = 2
arity Multiplexer = 3
arity Iterator = 3
arity LeftCounter = 3
arity RightCounter = 3
arity Transfer = 2

-- what a step sees of a cell
abbrev pub node_of : Cell → Node
node_of c = record { kind = kind_of c.kind; value = c.value; one = slice_index c.links 0; two = slice_index c.links 1; three = slice_index c.links 2 }

abbrev pub nodes_of : List Cell → List Node
nodes_of [] = []
nodes_of (c ∷ cs) = node_of c ∷ nodes_of cs

-- stands for a node that is not there
abbrev pub blank : Node
blank = record { kind = None; value = 0; one = 0; two = 0; three = 0 }

-- the link that stands for none: it is no port
abbrev pub absent : ℕ
absent = 4294967295

-- port p of node k has the number 3 k + p - 1
abbrev pub offset : Port → ℕ
offset First = 0
offset Second = 1
offset Third = 2

abbrev pub port_at : ℕ → Port → ℕ
port_at k p = 3 * k + offset p

abbrev pub place_of : ℕ → Port
place_of p = cond (p % 3 == 0) First (cond (p % 3 == 1) Second Third)

abbrev pub link_at : Node → Port → ℕ
link_at n First = n.one
link_at n Second = n.two
link_at n Third = n.three

abbrev pub node_at : List Node → ℕ → Node
node_at ns k = slice_index_or ns k blank

-- the port lies in a cell
unfoldable pub inside : List Node → ℕ → Bool
inside ns p = not (p == 4294967295) && nat_lt (p / 3) (length ns)

-- what the cell holds for the port's other end
unfoldable pub link : List Node → ℕ → ℕ
link ns p = link_at (node_at ns (p / 3)) (place_of p)

-- the port at the other end, of a port that lies in a cell
abbrev pub end : List Node → ℕ → Option ℕ
end ns p = cond (inside ns p) (Some (link ns p)) None

-- the two ports lie in cells, and each is the other's link
unfoldable pub linked : List Node → ℕ → ℕ → Bool
linked ns p q = inside ns p && (inside ns q && (link ns p == q && link ns q == p))

-- a cell that shows the node of the port, or none where there is no such node
abbrev pub ShowsNode : List Node → ℕ → Option Cell → Type 0
ShowsNode ns p (Some c) = node_at ns (p / 3) ≡ node_of c
ShowsNode ns p None = node_at ns (p / 3) ≡ blank
