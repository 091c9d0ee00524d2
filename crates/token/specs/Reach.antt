-- Tokens reached from an opening, over sound nodes. Assumes nothing.
use Rattle.std.specs.Prelude.{◌≡◌, ◌≤◌, List, length, ◌≢◌}
use Rattle.cells.specs.Ports.{Node}
use Rattle.cells.specs.Sound.{Sound}
use Rattle.machine.specs.declared.reasons.Reason.TheVariants.{Unlinked}
use Rattle.machine.specs.Steps.{to, ends}
use Rattle.token.specs.declared.memory.DataCell.{DataCell}
use Rattle.token.specs.State.{Rooms, State, opened, turned}
use Rattle.token.specs.Next.{next}

-- from an opening, by steps and turns
pub data Reached (ns : List Node) (rs : Rooms) : State → Type 0 where
  opening : (d : DataCell) → Reached ns rs (opened ns rs d)
  step : (s t : State) → Reached ns rs s → next s ≡ to t → Reached ns rs t
  turn : (s : State) → Reached ns rs s → Reached ns rs (turned s)

-- each port of each node has a number of its own, below that which stands for none
abbrev pub Numbered : List Node → Type 0
Numbered ns = length ns ≤ 1431655765

-- over sound nodes a token opened in this memory never finds its ports unlinked
abbrev pub StaysLinked : List Node → Rooms → Type 0
StaysLinked ns rs = (s : State) → Numbered ns → Sound ns → Reached ns rs s → next s ≢ ends Unlinked

abbrev pub NeverUnlinked : Type 0
NeverUnlinked = (ns : List Node) (rs : Rooms) → StaysLinked ns rs
