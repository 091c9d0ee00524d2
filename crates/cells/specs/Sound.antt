-- Sound networks: any cells of which these hold. Assumes nothing.
use Rattle.std.specs.Prelude.{◌≡◌, ℕ, ◌/◌, ◌%◌, ◌<◌, ◌≤◌, true, List, length, Some, None, Option}
use Rattle.cells.specs.declared.kinds.Kind.{Kind}
use Rattle.cells.specs.declared.kinds.Kind.TheVariants.{Root, Number, Successor, Multiplexer, Iterator, LeftCounter, RightCounter, Transfer}
use Rattle.cells.specs.Ports.{Node, node_at, arity, absent, inside, link}

-- node k has a port of this offset, by its kind
abbrev pub Below : ℕ → Option Kind → Type 0
Below i None = ⊥
Below i (Some k) = i < arity k

-- the port p is one that its node's kind has
pub record Has (ns : List Node) (p : ℕ) : Type 0 where
  pub lies : inside ns p ≡ true
  pub owned : Below (p % 3) (node_at ns (p / 3)).kind

-- n has any number, t the number of an iterator, and the others 0
abbrev pub Valued : Kind → ℕ → Type 0
Valued Root v = v ≡ 0
Valued Number v = Unit {0}
Valued Successor v = v ≡ 0
Valued Multiplexer v = v ≡ 0
Valued Iterator v = v ≡ 0
Valued LeftCounter v = v ≡ 0
Valued RightCounter v = v ≡ 0
Valued Transfer v = (1 ≤ v) × (v ≤ 64)

-- the port's link is another port that a kind has, which is linked back to it
pub record Mutual (ns : List Node) (p : ℕ) : Type 0 where
  pub there : Has ns (link ns p)
  pub back : link ns (link ns p) ≡ p
  pub other : link ns p ≡ p → ⊥

pub record Sound (ns : List Node) : Type 0 where
  -- node 0 is a root, and no other node is one
  pub root : (node_at ns 0).kind ≡ Some Root
  pub one_root : (k : ℕ) → (node_at ns k).kind ≡ Some Root → k ≡ 0
  -- each node is of some kind, with a value that fits it
  pub kinds : (k : ℕ) → k < length ns → (κ : Kind) × ((node_at ns k).kind ≡ Some κ) × Valued κ (node_at ns k).value
  -- each port that a kind has is linked, and the others are not
  pub linked : (p : ℕ) → Has ns p → Mutual ns p
  pub unlinked : (p : ℕ) → p / 3 < length ns → (Has ns p → ⊥) → link ns p ≡ absent
