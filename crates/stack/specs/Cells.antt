-- Stacks in the cells of a slice.
use Rattle.std.specs.Prelude.{ℕ, ◌+◌, ◌*◌, cond, nat_le, List, reverse, take}

-- the first n of some cells, the last of them first
unfoldable pub stacked : {X : Type 0} → ℕ → List X → List X
stacked n xs = reverse (take n xs)

-- how many of n cells belong to the shelf after the first k: none where one of its 64 is missing
abbrev pub slot_room : (n k : ℕ) → ℕ
slot_room n k = cond (nat_le (64 * k + 64) n) 64 0
