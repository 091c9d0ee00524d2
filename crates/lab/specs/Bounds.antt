-- How long a line can be, by the memory that the token has. Assumes nothing.
use Rattle.std.specs.Prelude.{ℕ, ◌≤◌, List, [], ◌∷◌, length}
use Rattle.cells.specs.Ports.{Node}
use Rattle.token.specs.declared.memory.IterCell.{IterCell}
use Rattle.token.specs.declared.memory.IterCell.TheVariants as iter
use Rattle.token.specs.declared.memory.DataCell.{DataCell}
use Rattle.token.specs.declared.memory.DataCell.TheVariants as dat
use Rattle.token.specs.State.{Rooms, opened}
use Rattle.token.specs.Next.{largest}
use Rattle.lab.specs.Listings.{listing}

abbrev pub Every : {X : Type 0} → (X → Type 0) → List X → Type 0
Every P [] = Unit {0}
Every P (x ∷ xs) = P x × Every P xs

-- a cell's numbers are at most 4,294,967,295
abbrev pub LowData : DataCell → Type 0
LowData dat.Question = Unit {0}
LowData (dat.Number a) = a ≤ largest

abbrev pub LowIter : IterCell → Type 0
LowIter (iter.Number a) = a ≤ largest
LowIter (iter.Pair a b) = (a ≤ largest) × (b ≤ largest)

-- no more memory than the tracer has: 2,048 nodes, 256 letter cells, 256 iterator cells and 1,024 data cells
pub record Modest (ns : List Node) (rs : Rooms) : Type 0 where
  pub nodes : length ns ≤ 2048
  pub letters : rs.letters ≤ 256
  pub iters : rs.iters ≤ 256
  pub datas : rs.datas ≤ 1024

-- a buffer of so many bytes takes every line there
abbrev pub line_room : ℕ
line_room = 18000

abbrev pub LinesFit : Type 0
LinesFit = (ns : List Node) (rs : Rooms) (d : DataCell) → Modest ns rs → LowData d → Every (λ l. length l ≤ line_room) (listing (opened ns rs d))
