-- What 64 shelves in one lent memory hold: shelf j, from 1 to 64, has cells 64(j - 1) to 64j - 1.
use Rattle.std.specs.Prelude.{◌≡◌, ℕ, zero, suc, ◌+◌, ◌*◌, ◌/◌, ◌<◌, ◌≤◌, min, cond, List, [], ◌∷◌, length, take, drop, Ok, Err, Result, nat_le, nat_lt, slice_index, slice_index_or, slice_set}
use Rattle.machine.specs.declared.reasons.Reason.{Reason}
use Rattle.machine.specs.declared.reasons.Reason.TheVariants.{Full}
use Rattle.stack.specs.Edits.{edited, growth}
use Rattle.stack.specs.Cells.{stacked}
use Rattle.stack.specs.declared.edits.Edit.{Edit}
use Rattle.stack.specs.declared.shelving.Shelves.{Shelves}

-- f at 0, 1 and so on: n values
unfoldable pub tabulate : {A : Type 0} → ℕ → (ℕ → A) → List A
tabulate zero f = []
tabulate (suc n) f = f 0 ∷ tabulate n (λ k. f (suc k))

-- the 64 cells of the shelf after the first k: none where one of them is missing
abbrev pub slot : {X : Type 0} → ℕ → List X → List X
slot k xs = cond (nat_le (64 * k + 64) (length xs)) (take 64 (drop (64 * k) xs)) []

-- what shelves of these heights hold in these cells, each the top first
unfoldable pub shelved : {X : Type 0} → List ℕ → List X → List (List X)
shelved hs xs = tabulate 64 (λ k. stacked (slice_index hs k) (slot k xs))

-- what the 64 shelves hold
unfoldable pub shelves : {X : Type 0} → Shelves X → List (List X)
shelves s = shelved s.heights s.cells.now

-- how many shelves have all their cells
unfoldable pub complete : {X : Type 0} → Shelves X → ℕ
complete s = min 64 (length s.cells.now / 64)

-- shelf j of some shelves, which are counted from 1
abbrev pub shelf : {X : Type 0} → ℕ → List (List X) → List X
shelf zero ls = []
shelf (suc k) ls = slice_index_or ls k []

-- the shelves with another shelf j
abbrev pub with_shelf : {X : Type 0} → ℕ → List X → List (List X) → List (List X)
with_shelf zero xs ls = ls
with_shelf (suc k) xs ls = slice_set ls k xs

-- how many cells shelf j can hold where n shelves have all their cells
abbrev pub shelf_room : (n j : ℕ) → ℕ
shelf_room n zero = 0
shelf_room n (suc k) = cond (nat_lt k n) 64 0

-- how many cells all the shelves hold
abbrev pub cells_held : {X : Type 0} → List (List X) → ℕ
cells_held [] = 0
cells_held (xs ∷ ls) = length xs + cells_held ls

-- the answer to an edit of shelf j where n shelves have all their cells, and the shelves after it:
-- done, if there are cells enough; else refused, and the shelves are as they were
abbrev pub ShelfAnswered : {X : Type 0} → List (List X) → (n j : ℕ) → Edit X → Result Unit Reason → List (List X) → Type 0
ShelfAnswered ls n j e (Ok _) ms = (length (shelf j ls) + growth e ≤ shelf_room n j) × (ms ≡ with_shelf j (edited e (shelf j ls)) ls)
ShelfAnswered ls n j e (Err r) ms = (r ≡ Full) × (shelf_room n j < length (shelf j ls) + growth e) × (ms ≡ ls)

-- shelf j has all its cells, and k shelves stand before it
pub record ShelfPlace {X : Type 0} (s : Shelves X) (j k : ℕ) : Type 0 where
  pub next : j ≡ k + 1
  pub one : k < 64
  pub whole : 64 * k + 64 ≤ length s.cells.now
  pub room : shelf_room (complete s) j ≡ 64
