-- Stacks as lists, the top first, and what an edit makes of them.
use Rattle.std.specs.Prelude.{◌≡◌, ℕ, ◌+◌, ◌<◌, ◌≤◌, List, [], ◌∷◌, length, Some, None, Ok, Err, Option, Result}
use Rattle.stack.specs.declared.edits.Edit.{Edit}
use Rattle.stack.specs.declared.edits.Edit.TheVariants.{Keep, Push, Pop, Replace, Split, Join}
use Rattle.machine.specs.declared.reasons.Reason.{Reason}
use Rattle.machine.specs.declared.reasons.Reason.TheVariants.{Full}

-- the top, if there is one
abbrev pub top_of : {X : Type 0} → List X → Option X
top_of [] = None
top_of (x ∷ xs) = Some x

-- what lies below the top
abbrev pub rest_of : {X : Type 0} → List X → List X
rest_of [] = []
rest_of (x ∷ xs) = xs

-- with another top, if there is one
abbrev pub replaced : {X : Type 0} → X → List X → List X
replaced x [] = []
replaced x (y ∷ ys) = x ∷ ys

-- what an edit makes of a stack
abbrev pub edited : {X : Type 0} → Edit X → List X → List X
edited Keep xs = xs
edited (Push x) xs = x ∷ xs
edited Pop xs = rest_of xs
edited (Replace x) xs = replaced x xs
edited (Split under top) xs = top ∷ replaced under xs
edited (Join x) xs = replaced x (rest_of xs)

-- how many free cells an edit takes
abbrev pub growth : {X : Type 0} → Edit X → ℕ
growth Keep = 0
growth (Push x) = 1
growth Pop = 0
growth (Replace x) = 0
growth (Split under top) = 1
growth (Join x) = 0

-- the answer to the question whether, above h of a stack's cells in use, n more are free
abbrev pub Asked : (room h n : ℕ) → Result Unit Reason → Type 0
Asked room h n (Ok _) = h + n ≤ room
Asked room h n (Err e) = (e ≡ Full) × (room < h + n)

-- the answer to an edit of a stack xs that has room for so many cells, and the stack after it:
-- done, if there are cells enough; else refused, and the stack is as it was
abbrev pub Answered : {X : Type 0} → List X → (room : ℕ) → Edit X → Result Unit Reason → List X → Type 0
Answered xs room e (Ok _) ys = (length xs + growth e ≤ room) × (ys ≡ edited e xs)
Answered xs room e (Err r) ys = (r ≡ Full) × (room < length xs + growth e) × (ys ≡ xs)
