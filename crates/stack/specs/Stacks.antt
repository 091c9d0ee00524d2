-- What a stack over lent memory holds, and how much it can hold.
use Rattle.std.specs.Prelude.{ℕ, List, length}
use Rattle.stack.specs.Cells.{stacked}
use Rattle.stack.specs.declared.stacks.Stack.{Stack}

-- what a stack holds, the top first
unfoldable pub held : {X : Type 0} → Stack X → List X
held s = stacked s.height s.cells.now

-- how many cells it can hold
unfoldable pub room : {X : Type 0} → Stack X → ℕ
room s = length s.cells.now
