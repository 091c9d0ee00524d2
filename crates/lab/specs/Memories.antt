-- Lent memory: what it is to be as it was, and the memory that the programs lend. Assumes nothing.
use Rattle.std.specs.Prelude.{◌≡◌, ◌≤◌, length, vec_items}
use Rattle.token.specs.State.{Rooms}
use Rattle.token_machine.specs.Tokens.{capacities}
use Rattle.lab.specs.declared.memory.Memory.{Memory}
use Rattle.lab.specs.declared.memory.Reserve.{Reserve}

-- the capacities in use
abbrev pub rooms_in : Memory → Rooms
rooms_in m = capacities (length m.letters.now) (length m.iters.now) (length m.datas.now) (length m.shelves.now)

-- each cell holds what it held
pub record AsItWas (m m' : Memory) : Type 0 where
  pub cells : m'.cells.now ≡ m.cells.now
  pub letters : m'.letters.now ≡ m.letters.now
  pub iters : m'.iters.now ≡ m.iters.now
  pub shelves : m'.shelves.now ≡ m.shelves.now
  pub datas : m'.datas.now ≡ m.datas.now

-- no more memory than the tracer's: 2,048 nodes, 256 letter, 256 iterator and 1,024 data cells
pub record AsTheTracer (m : Memory) : Type 0 where
  pub cells : length m.cells.now ≤ 2048
  pub letters : length m.letters.now ≤ 256
  pub iters : length m.iters.now ≤ 256
  pub datas : length m.datas.now ≤ 1024

pub record Sized (v : Reserve) : Type 0 where
  pub cells : length (vec_items v.cells) ≡ 2048
  pub letters : length (vec_items v.letters) ≡ 256
  pub iters : length (vec_items v.iters) ≡ 256
  pub shelves : length (vec_items v.shelves) ≡ 4096
  pub datas : length (vec_items v.datas) ≡ 1024

pub record Lent (v : Reserve) (m : Memory) : Type 0 where
  pub cells : m.cells.now ≡ vec_items v.cells
  pub letters : m.letters.now ≡ vec_items v.letters
  pub iters : m.iters.now ≡ vec_items v.iters
  pub shelves : m.shelves.now ≡ vec_items v.shelves
  pub datas : m.datas.now ≡ vec_items v.datas
