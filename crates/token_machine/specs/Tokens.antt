-- What state a token is in. Assumes nothing.
use Rattle.std.specs.Prelude.{◌≡◌, ℕ, ◌/◌, min, Bool, ◌&&◌, Some, None, Ok, Err, Result}
use Rattle.cells.specs.Ports.{nodes_of}
use Rattle.machine.specs.declared.reasons.Reason.{Reason}
use Rattle.machine.specs.declared.reasons.Reason.TheVariants.{NoNumber}
use Rattle.stack.specs.Stacks.{held, room}
use Rattle.stack.specs.Shelving.{shelves, complete}
use Rattle.token.specs.Table.{Stacks}
use Rattle.token.specs.State.{Rooms, State, is_empty, all_empty, number_of}
use Rattle.token_machine.specs.declared.tokens.Token.{Token}

abbrev pub stacks_of : Token → Stacks
stacks_of t = record { letters = held t.letters; iters = held t.iters; datas = held t.datas; shelves = shelves t.shelves }

abbrev pub rooms_of : Token → Rooms
rooms_of t = record { letters = room t.letters; iters = room t.iters; datas = room t.datas; shelves = complete t.shelves }

abbrev pub state_of : Token → State
state_of t = record { nodes = nodes_of t.cells.now; from = t.from; to = t.to; stacks = stacks_of t; rooms = rooms_of t }

-- the capacities in use, of memory of these lengths
abbrev pub capacities : (letters iters datas shelves : ℕ) → Rooms
capacities l i d s = record { letters = min 4096 l; iters = min 1024 i; datas = min 4096 d; shelves = min 64 (s / 64) }

-- m, i and the shelves are empty
abbrev pub is_bare : Stacks → Bool
is_bare s = is_empty s.letters && (is_empty s.iters && all_empty s.shelves)

-- the number that a token brings home, or the reason why there is none
abbrev pub NumberRead : State → Result ℕ Reason → Type 0
NumberRead s (Ok n) = number_of s ≡ Some n
NumberRead s (Err w) = (w ≡ NoNumber) × (number_of s ≡ None)
