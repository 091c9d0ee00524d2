-- A passage and the row that it goes by. Assumes nothing.
use Rattle.std.specs.Prelude.{◌≡◌, ℕ, ◌+◌, ◌≤◌, true, false, ◌⊎◌, List, ◌∷◌, length, Some, None, Ok, Err, Option, Result}
use Rattle.machine.specs.declared.reasons.Reason.{Reason}
use Rattle.machine.specs.declared.reasons.Reason.TheVariants.{Full, Unlinked}
use Rattle.machine.specs.Steps.{to, ends, then}
use Rattle.cells.specs.Ports.{Node, link, linked}
use Rattle.stack.specs.declared.edits.Edit.{Edit}
use Rattle.stack.specs.declared.edits.Edit.TheVariants.{Keep, Push, Pop, Replace, Split, Join}
use Rattle.stack.specs.Edits.{top_of, rest_of, edited, growth}
use Rattle.stack.specs.Shelving.{shelf, with_shelf, shelf_room}
use Rattle.token.specs.declared.memory.IterCell.{IterCell}
use Rattle.token.specs.declared.memory.IterCell.TheVariants as iter
use Rattle.token.specs.declared.memory.DataCell.{DataCell}
use Rattle.token.specs.declared.memory.DataCell.TheVariants as dat
use Rattle.token.specs.Table.{Stacks, Row, is_shelf}
use Rattle.token.specs.State.{Rooms, State}
use Rattle.token.specs.Next.{value_to, row_at, after, small, largest, leaves}
use Rattle.token_machine.specs.declared.passages.Passage.{Passage}
use Rattle.token_machine.specs.Passages.{Tops}

-- the shelves after an edit of shelf j
abbrev pub shelves_after : ℕ → Edit IterCell → List (List IterCell) → List (List IterCell)
shelves_after j Keep ss = ss
shelves_after j (Push c) ss = with_shelf j (c ∷ shelf j ss) ss
shelves_after j Pop ss = with_shelf j (rest_of (shelf j ss)) ss
shelves_after j (Replace c) ss = with_shelf j (edited (Replace c) (shelf j ss)) ss
shelves_after j (Split c d) ss = with_shelf j (edited (Split c d) (shelf j ss)) ss
shelves_after j (Join c) ss = with_shelf j (edited (Join c) (shelf j ss)) ss

-- the stacks after a passage, where j is the node's value
abbrev pub passed : (j : ℕ) → Passage → Stacks → Stacks
passed j m s = record {
  letters = edited m.letters s.letters;
  iters = edited m.iters s.iters;
  datas = edited m.datas s.datas;
  shelves = shelves_after j m.shelf s.shelves;
}

-- the tops, where j is the node's value
abbrev pub tops_of : (j : ℕ) → Stacks → Tops
tops_of j s = record {
  letter = top_of s.letters;
  iters = (top_of s.iters, top_of (rest_of s.iters));
  datas = (top_of s.datas, top_of (rest_of s.datas));
  shelved = top_of (shelf j s.shelves);
}

-- numbers that a cell holds are at most 4,294,967,295
abbrev pub LowData : Option DataCell → Type 0
LowData None = Unit {0}
LowData (Some dat.Question) = Unit {0}
LowData (Some (dat.Number a)) = a ≤ largest

abbrev pub LowIter : Option IterCell → Type 0
LowIter None = Unit {0}
LowIter (Some (iter.Number a)) = a ≤ largest
LowIter (Some (iter.Pair a b)) = (a ≤ largest) × (b ≤ largest)

pub record LowTops (t : Tops) : Type 0 where
  pub iter : LowIter t.iters.0
  pub under_iter : LowIter t.iters.1
  pub datum : LowData t.datas.0
  pub under_datum : LowData t.datas.1
  pub shelved : LowIter t.shelved

-- the passage m, at a node of value v, does what the row that applies does
pub record Passes (s : State) (v : ℕ) (m : Passage) : Type 0 where
  pub value : v ≡ value_to s
  pub row : Row
  pub found : row_at s ≡ to row
  pub exit : row.exit ≡ m.exit
  pub change : after s row ≡ passed v m s.stacks
  pub low : small s.stacks ≡ true
  pub lows : small (after s row) ≡ true
  pub shelf : (m.shelf ≡ Keep) ⊎ (is_shelf v s.stacks ≡ true)

-- a passage that does what the row does, or the reason why the way ends here
abbrev pub Found : State → Result (ℕ × Passage) Reason → Type 0
Found s (Ok p) = Passes s p.0 p.1
Found s (Err w) = then (row_at s) (leaves s) ≡ ends w

-- each stack that the passage makes grow has a cell left
pub record Roomy (rs : Rooms) (s : Stacks) (j : ℕ) (m : Passage) : Type 0 where
  pub letters : length s.letters + growth m.letters ≤ rs.letters
  pub iters : length s.iters + growth m.iters ≤ rs.iters
  pub datas : length s.datas + growth m.datas ≤ rs.datas
  pub shelf : length (shelf j s.shelves) + growth m.shelf ≤ shelf_room rs.shelves j

abbrev pub RoomAsked : Rooms → Stacks → ℕ → Passage → Result Unit Reason → Type 0
RoomAsked rs s j m (Ok _) = Roomy rs s j m
RoomAsked rs s j m (Err w) = (w ≡ Full) × (Roomy rs s j m → ⊥)

-- a port and its link, if they are linked to each other
abbrev pub WayOut : List Node → ℕ → Result (ℕ × ℕ) Reason → Type 0
WayOut ns p (Ok e) = (e.0 ≡ p) × (e.1 ≡ link ns p) × (linked ns p (link ns p) ≡ true)
WayOut ns p (Err w) = (w ≡ Unlinked) × (linked ns p (link ns p) ≡ false)

-- the stacks are changed, and nothing else is
abbrev pub Moved : State → ℕ → Passage → Result Unit Reason → State → Type 0
Moved s j m (Ok _) t = t ≡ record { nodes = s.nodes; from = s.from; to = s.to; stacks = passed j m s.stacks; rooms = s.rooms }
Moved s j m (Err w) t = ⊥
