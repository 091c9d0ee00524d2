-- What is proved of the network of a term. Assumes nothing.
use Rattle.std.specs.Prelude.{◌≡◌, ℕ, ◌+◌, ◌*◌, ◌≤◌, List, [], ◌++◌, map, length, drop, Some}
use Rattle.cells.specs.declared.kinds.Kind.TheVariants.{Number}
use Rattle.cells.specs.declared.kinds.Cell.{Cell}
use Rattle.cells.specs.Ports.{node_at, nodes_of}
use Rattle.cells.specs.Sound.{Sound}
use Rattle.calculus.specs.Types.{Ty, N}
use Rattle.calculus.specs.Terms.{Term, free, successors, iterators, nodes}
use Rattle.calculus.specs.Typing.{Ctx, Typed, weight, tallest}
use Rattle.geometry.specs.Labels.{Labelled, network_weight, successor_nodes, number_values, NoHigher, AllPlain}
use Rattle.geometry.specs.Network.{Env, EachVariable, wires, Kept, all_made, all_wires, network, cell_of}
use Rattle.geometry.specs.Memory.{laid, wired_cells}
use Rattle.geometry.specs.Derivations.{names, Distinct, Everywhere, numbers, NumbersWithin, label}

-- a context lists the free variables in order of occurrence
abbrev pub NamesAreFree : Type 0
NamesAreFree = (Γ : Ctx) (t : Term) (A : Ty) → Typed Γ t A → names Γ ≡ free t

-- so all derivations of a term have the same ones
abbrev pub SameNames : Type 0
SameNames = (Γ Δ : Ctx) (t : Term) (A B : Ty) → Typed Γ t A → Typed Δ t B → names Γ ≡ names Δ

-- in a closed derivation no context has a variable twice
abbrev pub NoneTwice : Type 0
NoneTwice = (t : Term) (A : Ty) (d : Typed [] t A) → Everywhere (λ Γ. Distinct (names Γ)) d

-- the root and the nodes counted, all of them
abbrev pub NodesCounted : Type 0
NodesCounted = (t : Term) → length (network t) ≡ 1 + nodes t

-- a network written into memory and read again is itself
abbrev pub ReadBack : Type 0
ReadBack = (t : Term) → nodes_of (map cell_of (network t)) ≡ network t

-- the links of a closed program's network are its wires: none is written over another
abbrev pub LinksAreWires : Type 0
LinksAreWires = (t : Term) (A : Ty) → Typed [] t A → Kept (network t) (all_wires t)

-- what a term is wired to depends on where its free variables start, and on those alone
abbrev pub WiresAreLocal : Type 0
WiresAreLocal = (t : Term) (k r : ℕ) (e f : Env) → EachVariable (λ x. e x ≡ f x) (free t) → wires t k r e ≡ wires t k r f

-- with cells enough, memory that is laid and wired begins with the network, and the rest of it is untouched
abbrev pub MemoryHolds : Type 0
MemoryHolds = (t : Term) (cs : List Cell) → 1 + nodes t ≤ length cs → wired_cells (all_wires t) (laid (all_made t) 0 cs) ≡ map cell_of (network t) ++ drop (1 + nodes t) cs

-- the network of a closed program of type N is sound, if its ports can be numbered and its iterators have numbers up to 64
abbrev pub NetworksAreSound : Type 0
NetworksAreSound = (t : Term) → Typed [] t N → 3 * (1 + nodes t) ≤ 4294967295 → iterators t ≤ 64 → Sound (network t)

-- its ports are typed, by types no higher than those of its sub-terms
abbrev pub PortsAreTyped : Type 0
PortsAreTyped = (t : Term) (d : Typed [] t N) → Labelled (network t) (label d) × NoHigher (network t) (label d) (tallest d)

-- without iterator, the Ns at the plus ports are the weight
abbrev pub WeightIsKept : Type 0
WeightIsKept = (t : Term) (d : Typed [] t N) → iterators t ≡ 0 → network_weight (label d) (network t) ≡ weight d

-- and no node is one of an iterator's
abbrev pub PlainKinds : Type 0
PlainKinds = (t : Term) → iterators t ≡ 0 → AllPlain (network t)

-- there is an S node for each S sign
abbrev pub SuccessorsCounted : Type 0
SuccessorsCounted = (t : Term) → successor_nodes (network t) ≡ successors t

-- for each number there is an n node with that value, in the same order
abbrev pub NumbersListed : Type 0
NumbersListed = (t : Term) → number_values (network t) ≡ numbers t

-- where the numbers of the term are at most b, so are the values of the n nodes
abbrev pub NumbersKept : Type 0
NumbersKept = (t : Term) (b : ℕ) → NumbersWithin b t → (k : ℕ) → (node_at (network t) k).kind ≡ Some Number → (node_at (network t) k).value ≤ b
