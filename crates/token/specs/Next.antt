-- The next state of a token, by six questions in order. Assumes nothing.
use Rattle.std.specs.Prelude.{ℕ, ◌/◌, Bool, true, false, cond, not, ◌&&◌, leb, List, [], ◌∷◌, length, Some, None, Option, ◌==◌, nat_le}
use Rattle.cells.specs.declared.kinds.Kind.{Kind}
use Rattle.cells.specs.declared.kinds.Port.{Port}
use Rattle.cells.specs.Ports.{kind_number, offset, node_at, place_of, port_at, link, linked}
use Rattle.machine.specs.declared.reasons.Reason.{Reason}
use Rattle.machine.specs.declared.reasons.Reason.TheVariants.{Home, NoRow, Unlinked, Full, Overflow}
use Rattle.machine.specs.Steps.{Next, to, ends, then}
use Rattle.stack.specs.Shelving.{shelf, shelf_room}
use Rattle.token.specs.Table.{Stacks, Row, table, fits, changed, by_data, by_iter}
use Rattle.token.specs.State.{Rooms, State}

-- the row is one for a node of this kind and value, a port of arrival and these stacks
abbrev pub applies : Kind → Port → (v : ℕ) → Stacks → Row → Bool
applies k p v s r = kind_number r.kind == kind_number k && (offset r.port == offset p && fits r.top v s)

abbrev pub first_row : Kind → Port → (v : ℕ) → Stacks → List Row → Option Row
first_row k p v s [] = None
first_row k p v s (r ∷ rs) = cond (applies k p v s r) (Some r) (first_row k p v s rs)

-- the row of the table for a node and a port of arrival: none where the cell's number is that of no kind
unfoldable pub row_for : Option Kind → Port → (v : ℕ) → Stacks → Option Row
row_for None p v s = None
row_for (Some k) p v s = first_row k p v s table

-- the node at which the token arrives, and its value
abbrev pub node_to : State → ℕ
node_to s = s.to / 3

abbrev pub value_to : State → ℕ
value_to s = (node_at s.nodes (node_to s)).value

abbrev pub or_no_row : Option Row → Next Row
or_no_row None = ends NoRow
or_no_row (Some r) = to r

-- does a row apply: none does at node 0
abbrev pub row_at : State → Next Row
row_at s = cond (node_to s == 0) (ends NoRow) (or_no_row (row_for (node_at s.nodes (node_to s)).kind (place_of s.to) (value_to s) s.stacks))

-- the stacks that a node of value v can reach hold no more than they have cells for
abbrev pub within : Rooms → (v : ℕ) → Stacks → Bool
within rs v s =
    nat_le (length s.letters) rs.letters
    && (nat_le (length s.iters) rs.iters
    && (nat_le (length s.datas) rs.datas
    && nat_le (length (shelf v s.shelves)) (shelf_room rs.shelves v)))

abbrev pub largest : ℕ
largest = 4294967295

-- the numbers on top of d and of i are at most 4,294,967,295
abbrev pub small : Stacks → Bool
small s =
    by_data true (λ _. true) (λ a _. leb a largest) s.datas
    && by_iter true (λ a _. leb a largest) (λ a b _. nat_le a largest && nat_le b largest) s.iters

-- on a yes the way goes on, on a no it ends with the reason
abbrev pub asked : {S : Type 0} → Bool → Reason → Next S → Next S
asked true w n = n
asked false w n = ends w

-- what a row leaves of the stacks, and the port by which it leaves the node
abbrev pub after : State → Row → Stacks
after s r = changed r.change (value_to s) s.stacks

abbrev pub exit_to : State → Row → ℕ
exit_to s r = port_at (node_to s) r.exit

-- the token at the other end of a port's link, with other stacks
abbrev pub gone : State → ℕ → Stacks → State
gone s e t = record { nodes = s.nodes; from = e; to = link s.nodes e; stacks = t; rooms = s.rooms }

-- has each growing stack a cell left, is each new number small, are the exit port and its link linked to each other
-- (the stacks before are asked too, so that the laws hold of every state: no token's stacks or numbers pass the limits)
abbrev pub leaves : State → Row → Next State
leaves s r =
    asked (within s.rooms (value_to s) s.stacks && within s.rooms (value_to s) (after s r)) Full
    (asked (small s.stacks && small (after s r)) Overflow
    (asked (linked s.nodes (exit_to s r) (link s.nodes (exit_to s r))) Unlinked
    (to (gone s (exit_to s r) (after s r)))))

-- is the to port other than 0, are from and to linked to each other, does a row apply, and what its leaving asks
unfoldable pub next : State → Next State
next s =
    asked (not (s.to == 0)) Home
    (asked (linked s.nodes s.from s.to) Unlinked
    (then (row_at s) (leaves s)))
