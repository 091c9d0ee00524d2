-- How much a stack holds, and how much an edit makes of that.
use Rattle.std.proofs.Common.{◌≡◌, ◌+◌, ◌≤◌, List, [], ◌∷◌, length, refl, arith}
use Rattle.stack.specs.Edits.{edited, growth, rest_of, replaced}
use Rattle.stack.specs.Stacks.{held, room}
use Rattle.stack.specs.declared.edits.Edit.{Edit}
use Rattle.stack.specs.declared.edits.Edit.TheVariants.{Keep, Push, Pop, Replace, Split, Join}
use Rattle.stack.specs.declared.stacks.Stack.{Stack}
use Rattle.stack.proofs.Stacked.{stacked-count, stacked_none, stacked-put, stacked_less, stacked_replace, second_is}

-- a stack holds as many cells as its height says
pub held_height : {X : Type 0} (s : Stack X) → length (held s) ≡ s.height
unfolding held
held_height s = let f = s.fits in omega (arith, stacked-count s.cells.now s.height)

-- and no more than it has room for
pub held_fits : {X : Type 0} (s : Stack X) → length (held s) ≤ room s
unfolding room
held_fits s = let f = s.fits in omega (arith, held_height s)

rest_length : {X : Type 0} (xs : List X) → length (rest_of xs) ≤ length xs
rest_length [] = omega arith
rest_length (x ∷ xs) = omega arith

replaced-length : {X : Type 0} (x : X) (xs : List X) → length (replaced x xs) ≡ length xs
replaced-length x [] = refl
replaced-length x (y ∷ ys) = refl

-- an edit adds no more cells than it is said to
pub edited-length : {X : Type 0} (e : Edit X) (xs : List X) → length (edited e xs) ≤ length xs + growth e
edited-length Keep xs = omega arith
edited-length (Push x) xs = omega arith
edited-length Pop xs = omega (arith, rest_length xs)
edited-length (Replace x) xs = omega (arith, replaced-length x xs)
edited-length (Split under top) xs = omega (arith, replaced-length under xs)
edited-length (Join x) xs = omega (arith, replaced-length x (rest_of xs), rest_length xs)

-- what the operations of a stack come to in its cells
pub ruleset stacking = (held_height, stacked-count, stacked_none, stacked-put, stacked_less, stacked_replace, second_is)
