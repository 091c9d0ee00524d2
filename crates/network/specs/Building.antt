-- What building promises of a text and the memory lent: its network and what holds of it, or why there is none. Assumes nothing.
use Rattle.std.specs.Prelude.{◌≡◌, ℕ, ◌+◌, ◌<◌, ◌≤◌, List, [], ◌++◌, map, length, take, drop, Some, Ok, Err, Result}
use Rattle.cells.specs.declared.kinds.Cell.{Cell}
use Rattle.cells.specs.declared.kinds.Kind.TheVariants.{Number}
use Rattle.cells.specs.Ports.{Node, node_at, nodes_of}
use Rattle.cells.specs.Sound.{Sound}
use Rattle.calculus.specs.Types.{N}
use Rattle.calculus.specs.Terms.{Term, subterms, successors, iterators, nodes}
use Rattle.calculus.specs.Typing.{Typed, weight, tallest}
use Rattle.geometry.specs.Labels.{Labelled, network_weight, successor_nodes, NoHigher, AllPlain}
use Rattle.geometry.specs.Network.{all_made, all_wires, network, cell_of}
use Rattle.geometry.specs.Memory.{laid, wired_cells}
use Rattle.geometry.specs.Derivations.{label}
use Rattle.syntax.specs.declared.refusal.Fault.TheVariants.{FewCells}
use Rattle.syntax.specs.declared.refusal.Refusal.{Refusal}
use Rattle.syntax.specs.Trees.{Name, Tree, erase}
use Rattle.syntax.specs.Names.{resolve, fault}
use Rattle.grammar.specs.Exactness.{Accepted, Rejected}
use Rattle.network.specs.declared.part.Part.{Part}
use Rattle.network.specs.Parts.{Holds}
use Rattle.network.specs.Wiring.{Below}

-- the term of an accepted text: its variables are known by their binders
abbrev pub term_of : Tree Name → Term
term_of t = erase (resolve [] t)

-- the first n cells hold the network of the term, and the others what they held
pub record Stored (t : Term) (n : ℕ) (cells cells' : List Cell) : Type 0 where
  pub count : n ≡ 1 + nodes t
  pub room : n ≤ length cells
  pub written : cells' ≡ map cell_of (network t) ++ drop n cells

-- the nodes are sound, and the ports typed by every derivation of the term at N, with types no higher than those of its sub-terms;
-- without iterator the Ns at the plus ports are its weight, and no node is one of an iterator's
pub record Trusted (t : Term) (ns : List Node) : Type 0 where
  pub sound : Sound ns
  pub typed : (d : Typed [] t N) → Labelled ns (label d) × NoHigher ns (label d) (tallest d)
  pub weighs : (d : Typed [] t N) → iterators t ≡ 0 → network_weight (label d) ns ≡ weight d
  pub plain : iterators t ≡ 0 → AllPlain ns
  pub counts : successor_nodes ns ≡ successors t
  pub small : (k : ℕ) → (node_at ns k).kind ≡ Some Number → (node_at ns k).value ≤ 1000000000

-- why no network is built in so many cells: the text is rejected, or its network needs more
pub data Unbuilt (text : List ℕ) (size : ℕ) : Refusal → Type 0 where
  rejected : {f : Refusal} → Rejected text f → Unbuilt text size f
  few_cells : (t : Tree Name) → Accepted text t → size < 1 + nodes (term_of t) → Unbuilt text size (fault FewCells 0)

-- the answer to a text, with the cells before and after; a refusal leaves every cell as it was
abbrev pub Built : List ℕ → List Cell → List Cell → Result ℕ Refusal → Type 0
Built text cells cells' (Ok n) = (t : Tree Name) × Accepted text t × Stored (term_of t) n cells cells' × Trusted (term_of t) (nodes_of (take n cells'))
Built text cells cells' (Err f) = Unbuilt text (length cells) f × (cells' ≡ cells)

-- how many cells a text's network needs, if it is accepted
abbrev pub Needs : List ℕ → Result ℕ Refusal → Type 0
Needs text (Ok n) = (t : Tree Name) × Accepted text t × (n ≡ 1 + nodes (term_of t))
Needs text (Err f) = Rejected text f

-- the parts of a checked text: part i is its term
abbrev pub Checked : List ℕ → List Part → Result ℕ Refusal → Type 0
Checked text parts (Ok i) = (t : Tree Name) × Accepted text t × Holds parts i (term_of t)
Checked text parts (Err f) = Rejected text f

-- part i is a closed program of type N, with tables and cells large enough for its network
pub record Drawable (parts : List Part) (i places size : ℕ) (t : Term) : Type 0 where
  pub holds : Holds parts i t
  pub typed : Typed [] t N
  pub small : subterms t ≤ 2048
  pub few : iterators t ≤ 64
  pub below : Below places t
  pub room : 1 + nodes t ≤ size

-- its nodes were laid and wired
abbrev pub Drawn : Term → List Cell → List Cell → Type 0
Drawn t cells cells' = cells' ≡ wired_cells (all_wires t) (laid (all_made t) 0 cells)
