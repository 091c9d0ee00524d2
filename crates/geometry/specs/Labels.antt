-- Ports with a sign and a type: what it is that a network is well typed, and what it then weighs. Assumes nothing.
use Rattle.std.specs.Prelude.{◌≡◌, ℕ, suc, ◌+◌, ◌*◌, ◌≤◌, List, [], ◌∷◌, Some, None, Option}
use Rattle.cells.specs.declared.kinds.Kind.{Kind}
use Rattle.cells.specs.declared.kinds.Kind.TheVariants.{Root, Number, Successor, Multiplexer, Iterator, LeftCounter, RightCounter, Transfer}
use Rattle.cells.specs.Ports.{Node, node_at, link}
use Rattle.cells.specs.Sound.{Has}
use Rattle.calculus.specs.Types.{Ty, N, ◌⇒◌, ◌⊗◌, height, naturals}

-- plus at the producer's end of a wire, minus at the consumer's
pub data Sign : Type 0 where
  plus minus : Sign

abbrev pub opposite : Sign → Sign
opposite plus = minus
opposite minus = plus

pub data Label : Type 0 where
  on : Sign → Ty → Label

abbrev pub flip : Label → Label
flip (on s A) = on (opposite s) A

abbrev pub type_of : Label → Ty
type_of (on s A) = A

-- the labels that the ports of a node of each kind may have
pub data Fits : Kind → Label → Label → Label → Type 0 where
  at_root : {b c : Label} → Fits Root (on minus N) b c
  at_number : {b c : Label} → Fits Number (on plus N) b c
  at_successor : {c : Label} → Fits Successor (on minus N) (on plus N) c
  at_function : {s : Sign} {T U : Ty} {b : Label} → b ≡ on (opposite s) U → Fits Multiplexer (on s (T ⇒ U)) b (on s T)
  at_pair : {s : Sign} {T U : Ty} {b c : Label} → b ≡ on (opposite s) T → c ≡ on (opposite s) U → Fits Multiplexer (on s (T ⊗ U)) b c
  at_iterator : {A : Ty} → Fits Iterator (on minus N) (on plus A) (on minus A)
  at_left_counter : {A : Ty} → Fits LeftCounter (on minus A) (on plus A) (on plus A)
  at_right_counter : {A : Ty} → Fits RightCounter (on plus A) (on minus A) (on minus A)
  at_transfer : {T : Ty} {c : Label} → Fits Transfer (on minus T) (on plus T) c

-- a label on each port, so that each node's ports fit its kind, and the ends of a wire have opposite signs and equal types
pub record Labelled (ns : List Node) (label : ℕ → Label) : Type 0 where
  pub fits : (k : ℕ) (κ : Kind) → (node_at ns k).kind ≡ Some κ → Fits κ (label (3 * k)) (label (3 * k + 1)) (label (3 * k + 2))
  pub ends : (p : ℕ) → Has ns p → label (link ns p) ≡ flip (label p)

-- the Ns that a port produces
abbrev pub produced : Label → ℕ
produced (on plus A) = naturals A
produced (on minus A) = 0

-- the Ns at the plus ports that a node has, by its kind
abbrev pub node_weight : Option Kind → Label → Label → Label → ℕ
node_weight None a b c = 0
node_weight (Some Root) a b c = produced a
node_weight (Some Number) a b c = produced a
node_weight (Some Successor) a b c = produced a + produced b
node_weight (Some Multiplexer) a b c = produced a + (produced b + produced c)
node_weight (Some Iterator) a b c = produced a + (produced b + produced c)
node_weight (Some LeftCounter) a b c = produced a + (produced b + produced c)
node_weight (Some RightCounter) a b c = produced a + (produced b + produced c)
node_weight (Some Transfer) a b c = produced a + produced b

abbrev pub weight_from : (ℕ → Label) → ℕ → List Node → ℕ
weight_from label k [] = 0
weight_from label k (n ∷ ns) = node_weight n.kind (label (3 * k)) (label (3 * k + 1)) (label (3 * k + 2)) + weight_from label (suc k) ns

-- the Ns in the types of all plus ports
abbrev pub network_weight : (ℕ → Label) → List Node → ℕ
network_weight label ns = weight_from label 0 ns

abbrev pub successors_at : Option Kind → ℕ
successors_at None = 0
successors_at (Some Root) = 0
successors_at (Some Number) = 0
successors_at (Some Successor) = 1
successors_at (Some Multiplexer) = 0
successors_at (Some Iterator) = 0
successors_at (Some LeftCounter) = 0
successors_at (Some RightCounter) = 0
successors_at (Some Transfer) = 0

-- how many successor nodes there are
abbrev pub successor_nodes : List Node → ℕ
successor_nodes [] = 0
successor_nodes (n ∷ ns) = successors_at n.kind + successor_nodes ns

-- the list with a node's value before it, if it is a number node
abbrev pub with_number : Option Kind → ℕ → List ℕ → List ℕ
with_number None v vs = vs
with_number (Some Root) v vs = vs
with_number (Some Number) v vs = v ∷ vs
with_number (Some Successor) v vs = vs
with_number (Some Multiplexer) v vs = vs
with_number (Some Iterator) v vs = vs
with_number (Some LeftCounter) v vs = vs
with_number (Some RightCounter) v vs = vs
with_number (Some Transfer) v vs = vs

-- the values of the number nodes, in the order of the nodes' numbers
abbrev pub number_values : List Node → List ℕ
number_values [] = []
number_values (n ∷ ns) = with_number n.kind n.value (number_values ns)

-- no port's type is higher than h
abbrev pub NoHigher : List Node → (ℕ → Label) → ℕ → Type 0
NoHigher ns label h = (p : ℕ) → Has ns p → height (type_of (label p)) ≤ h

-- the kinds that a program without iterator makes
abbrev pub Plain : Kind → Type 0
Plain Root = Unit {0}
Plain Number = Unit {0}
Plain Successor = Unit {0}
Plain Multiplexer = Unit {0}
Plain Iterator = ⊥
Plain LeftCounter = ⊥
Plain RightCounter = ⊥
Plain Transfer = ⊥

abbrev pub AllPlain : List Node → Type 0
AllPlain ns = (k : ℕ) (κ : Kind) → (node_at ns k).kind ≡ Some κ → Plain κ
