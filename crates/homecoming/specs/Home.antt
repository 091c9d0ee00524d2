-- A typed network without iterator brings the token home: what is supposed, and what is promised. Assumes nothing.
use Rattle.std.specs.Prelude.{◌≡◌, ℕ, ◌+◌, ◌*◌, ◌%◌, ◌≤◌, List, Some}
use Rattle.cells.specs.declared.kinds.Kind.TheVariants.{Number}
use Rattle.cells.specs.Ports.{Node, node_at}
use Rattle.cells.specs.Sound.{Sound}
use Rattle.geometry.specs.Labels.{Label, Labelled, AllPlain, NoHigher, network_weight, successor_nodes}
use Rattle.token.specs.State.{Rooms}
use Rattle.token.specs.Distance.{ToNumber}
use Rattle.token.specs.Reach.{Numbered}

-- no number node has a number above 1,000,000,000
abbrev pub SmallNumbers : List Node → Type 0
SmallNumbers ns = (k : ℕ) → (node_at ns k).kind ≡ Some Number → (node_at ns k).value ≤ 1000000000

-- sound and typed nodes, of kinds that programs without iterator make
pub record Network (ns : List Node) (label : ℕ → Label) : Type 0 where
  pub numbered : Numbered ns
  pub sound : Sound ns
  pub labelled : Labelled ns label
  pub plain : AllPlain ns
  pub small : SmallNumbers ns

-- a letter cell for each unit of the types' greatest height, and a data cell more than there are successor nodes;
-- no iterator cell and no shelf is asked for
pub record Suffices (ns : List Node) (label : ℕ → Label) (rs : Rooms) : Type 0 where
  pub letters : NoHigher ns label rs.letters
  pub datas : 1 + successor_nodes ns ≤ rs.datas

-- the token comes home with a number: the distance from question to it is odd, and at most one less than twice w
pub record Home (ns : List Node) (rs : Rooms) (w : ℕ) : Type 0 where
  pub number : ℕ
  pub steps : ℕ
  pub distance : ToNumber ns rs number steps
  pub odd : steps % 2 ≡ 1
  pub soon : steps + 1 ≤ 2 * w

-- from every such network, in memory that suffices, within the bound that the network's weight sets
abbrev pub ComesHome : Type 0
ComesHome = (ns : List Node) (label : ℕ → Label) (rs : Rooms) → Network ns label → Suffices ns label rs → Home ns rs (network_weight label ns)
