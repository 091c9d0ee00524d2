-- The ports that the nodes of a list have: each is counted once.
use Rattle.std.proofs.Common.{◌≡◌, ℕ, zero, suc, ◌+◌, ◌/◌, ◌%◌, ◌<◌, ◌≤◌, List, [], ◌∷◌, length, refl, arith}
use native.Mathlib.Decide.{dec_le}
use Rattle.cells.specs.declared.kinds.Kind.{Kind}
use Rattle.cells.specs.declared.kinds.Kind.TheVariants.{Root, Number, Successor, Multiplexer, Iterator, LeftCounter, RightCounter, Transfer}
use Rattle.cells.specs.Ports.{arity}
use Rattle.geometry.specs.Network.{Made, l1, l2, l3}
use Rattle.geometry.proofs.Ends.{hit_tells, port_of, ports}

-- how many ports the node i of a list has, and that p is one of them
abbrev pub arity_at : List Made → ℕ → ℕ
arity_at [] i = 0
arity_at (m ∷ ms) zero = arity m.0
arity_at (m ∷ ms) (suc i) = arity_at ms i

abbrev pub Owns : List Made → ℕ → Type 0
Owns ms p = p % 3 < arity_at ms (p / 3)

-- what a count is where p is among the first a ports of node k, or not
abbrev Counts : ℕ → ℕ → ℕ → Type 0
Counts p a n = (p % 3 < a → n ≡ 1) × (a ≤ p % 3 → n ≡ 0)

one_port : (p k : ℕ) → p / 3 ≡ k → Counts p 1 (port_of p k Root)
one_port p k e = omega (arith, hit_tells p (l1 k))

two_ports : (p k : ℕ) → p / 3 ≡ k → Counts p 2 (port_of p k Successor)
two_ports p k e = omega (arith, hit_tells p (l1 k), hit_tells p (l2 k))

three_ports : (p k : ℕ) → p / 3 ≡ k → Counts p 3 (port_of p k Multiplexer)
three_ports p k e = omega (arith, hit_tells p (l1 k), hit_tells p (l2 k), hit_tells p (l3 k))

port_of_here : (p k : ℕ) (κ : Kind) → p / 3 ≡ k → Counts p (arity κ) (port_of p k κ)
port_of_here p k Root e = one_port p k e
port_of_here p k Number e = one_port p k e
port_of_here p k Successor e = two_ports p k e
port_of_here p k Multiplexer e = three_ports p k e
port_of_here p k Iterator e = three_ports p k e
port_of_here p k LeftCounter e = three_ports p k e
port_of_here p k RightCounter e = three_ports p k e
port_of_here p k Transfer e = two_ports p k e

no_port : (p k : ℕ) → (p / 3 ≡ k → ⊥) → port_of p k Multiplexer ≡ 0
no_port p k e = omega (arith, hit_tells p (l1 k), hit_tells p (l2 k), hit_tells p (l3 k))

port_of_else : (p k : ℕ) (κ : Kind) → (p / 3 ≡ k → ⊥) → port_of p k κ ≡ 0
port_of_else p k Root e = omega (arith, no_port p k e)
port_of_else p k Number e = omega (arith, no_port p k e)
port_of_else p k Successor e = omega (arith, no_port p k e)
port_of_else p k Multiplexer e = no_port p k e
port_of_else p k Iterator e = no_port p k e
port_of_else p k LeftCounter e = no_port p k e
port_of_else p k RightCounter e = no_port p k e
port_of_else p k Transfer e = omega (arith, no_port p k e)

ports_before : (p k : ℕ) (ms : List Made) → p / 3 < k → ports p k ms ≡ 0
ports_before p k [] h = refl
ports_before p k (m ∷ ms) h = omega (arith, port_of_else p k m.0 (omega arith), ports_before p (suc k) ms (omega arith))

ports_at : (p k i : ℕ) (ms : List Made) → p / 3 ≡ k + i → Counts p (arity_at ms i) (ports p k ms)
ports_at p k i [] e = omega arith
ports_at p k zero (m ∷ ms) e =
    let c = port_of_here p k m.0 (omega arith) in
    let z = ports_before p (suc k) ms (omega arith) in
    (λ h. omega (arith, c.0 h, z), λ h. omega (arith, c.1 h, z))
ports_at p k (suc i) (m ∷ ms) e =
    let c = ports_at p (suc k) i ms (omega arith) in
    let z = port_of_else p k m.0 (omega arith) in
    (λ h. omega (arith, z, c.0 h), λ h. omega (arith, z, c.1 h))

at_first : (p : ℕ) (ms : List Made) → Counts p (arity_at ms (p / 3)) (ports p 0 ms)
at_first p ms = ports_at p 0 (p / 3) ms (omega arith)

-- a port that a node has is counted once, and any other not at all
pub once : (p : ℕ) (ms : List Made) → Owns ms p → ports p 0 ms ≡ 1
once p ms h = (at_first p ms).0 h

pub never : (p : ℕ) (ms : List Made) → (Owns ms p → ⊥) → ports p 0 ms ≡ 0
never p ms h = (at_first p ms).1 (omega arith)

pub at_most : (p : ℕ) (ms : List Made) → ports p 0 ms ≤ 1
at_most p ms = elim (dec_le (arity_at ms (p / 3)) (p % 3)) [ yes h ↦ omega (arith, (at_first p ms).1 h) | no h ↦ omega (arith, (at_first p ms).0 (omega arith)) ]

pub owns : (p : ℕ) (ms : List Made) → 1 ≤ ports p 0 ms → Owns ms p
owns p ms h = elim (dec_le (arity_at ms (p / 3)) (p % 3)) [ yes g ↦ absurd (omega (arith, (at_first p ms).1 g)) | no g ↦ omega arith ]

arity_at_bound : (ms : List Made) (i : ℕ) → 0 < arity_at ms i → i < length ms
arity_at_bound [] i h = absurd (omega arith)
arity_at_bound (m ∷ ms) zero h = omega arith
arity_at_bound (m ∷ ms) (suc i) h = omega (arith, arity_at_bound ms i h)

pub owns_bound : (ms : List Made) (p : ℕ) → Owns ms p → p / 3 < length ms
owns_bound ms p h = arity_at_bound ms (p / 3) (omega arith)
