-- What the table is to be, so that a token's way can be gone back: no token fits two rows, and each row has its reverse. Assumes nothing.
use Rattle.std.specs.Prelude.{◌≡◌, ℕ, ◌<◌, true, ◌⊎◌, List, [], ◌∷◌, length, ◌≢◌}
use Rattle.cells.specs.declared.kinds.Kind.{Kind}
use Rattle.cells.specs.declared.kinds.Kind.TheVariants.{Root}
use Rattle.cells.specs.declared.kinds.Port.{Port}
use Rattle.cells.specs.Ports.{arity, offset}
use Rattle.token.specs.Table.{Stacks, Top, Change, Row, table, fits, changed, anything, letter, question, questions, number, own, positive, over_question, iter_cell, iter_number, pair, started, counting, shelved, give, take_back, ask, unask, lower, raise, push, pop, pose, withdraw, store, restore, start, finish, count_up, count_down, shelve, unshelve}
use Rattle.token.specs.Next.{applies}

-- the top at which a change can be made
abbrev pub guard : Change → Top
guard give = question
guard take_back = own
guard ask = question
guard unask = questions
guard lower = positive
guard raise = over_question
guard (push l) = anything
guard (pop l) = letter l
guard pose = anything
guard withdraw = question
guard store = number
guard restore = iter_number
guard (start σ) = iter_number
guard (finish σ) = started σ
guard (count_up σ) = pair
guard (count_down σ) = counting σ
guard shelve = iter_cell
guard unshelve = shelved

-- the change that takes a change back
abbrev pub undo : Change → Change
undo give = take_back
undo take_back = give
undo ask = unask
undo unask = ask
undo lower = raise
undo raise = lower
undo (push l) = pop l
undo (pop l) = push l
undo pose = withdraw
undo withdraw = pose
undo store = restore
undo restore = store
undo (start σ) = finish σ
undo (finish σ) = start σ
undo (count_up σ) = count_down σ
undo (count_down σ) = count_up σ
undo shelve = unshelve
undo unshelve = shelve

-- the reverse of a row: in by its exit, out by its port
abbrev pub reverse : Row → Row
reverse r = record { kind = r.kind; port = r.exit; top = guard (undo r.change); change = undo r.change; exit = r.port }

abbrev pub Member : Row → List Row → Type 0
Member r [] = ⊥
Member r (q ∷ qs) = (r ≡ q) ⊎ Member r qs

-- a change made where it can be made is taken back by its undoing, which can be made there
pub record Undone (c : Change) (v : ℕ) (s : Stacks) : Type 0 where
  pub again : fits (guard (undo c)) v (changed c v s) ≡ true
  pub back : changed (undo c) v (changed c v s) ≡ s

-- with these stacks a token that arrives at this port of a node of this kind and value is taken in by a row of the table
pub record Taken (k : Kind) (p : Port) : Type 0 where
  pub value : ℕ
  pub stacks : Stacks
  pub row : Row
  pub listed : Member row table
  pub taken : applies k p value stacks row ≡ true

pub record TableStands : Type 0 where
  -- there are 24 rows, and each port of each kind but the root takes some token in
  pub rows : length table ≡ 24
  pub everywhere : (k : Kind) (p : Port) → (k ≢ Root) → offset p < arity k → Taken k p
  -- no token fits two rows
  pub alone : (k : Kind) (p : Port) (v : ℕ) (s : Stacks) (r q : Row) → Member r table → Member q table → applies k p v s r ≡ true → applies k p v s q ≡ true → r ≡ q
  -- each row has its reverse, and is the reverse of that
  pub reversed : (r : Row) → Member r table → Member (reverse r) table
  pub twice : (r : Row) → Member r table → reverse (reverse r) ≡ r
  pub undone : (c : Change) (v : ℕ) (s : Stacks) → fits (guard c) v s ≡ true → Undone c v s
  -- a row leaves by a port that its kind has
  pub leaves : (r : Row) → Member r table → offset r.exit < arity r.kind
