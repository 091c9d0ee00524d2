-- What is read of a machine and a walk's sum.
use Rattle.std.specs.Prelude.{◌≡◌, List, [], ◌∷◌, ℤ, Some, None, Option}
use Rattle.runs.specs.declared.calls.Call.{Call}
use Rattle.runs.specs.declared.calls.Call.TheVariants as call
use Rattle.runs.specs.declared.calls.Answer.{Answer}
use Rattle.runs.specs.declared.calls.Answer.TheVariants as answer

-- t is read for the query q at the state y and the sum s:
-- some machine stands at y, and each that does gives that reading, so it is a function of state and sum
pub record Reads {M S Q R : Type 0} (state : M → S) (reading : M → ℤ → Q → R) (y : S) (s : ℤ) (q : Q) (t : R) : Type 0 where
  pub someone : M
  pub stands : state someone ≡ y
  pub alike : (m : M) → state m ≡ y → t ≡ reading m s q

-- an answer with the meaning of its reply in the reply's place
abbrev pub meant : {X R : Type 0} → (X → R) → Answer X → Answer R
meant told (answer.Moved a) = answer.Moved a
meant told (answer.Sum s) = answer.Sum s
meant told answer.Probed = answer.Probed
meant told answer.Kept = answer.Kept
meant told answer.NoProbe = answer.NoProbe
meant told (answer.Read x) = answer.Read (told x)

-- the room made for a call: one that fits its query for a reading, none for another call
abbrev pub Ready : {Q X : Type 0} → (Q → X → Type 0) → Call Q → Option X → Type 0
Ready fits (call.Forward k) x = x ≡ None
Ready fits (call.Back k) x = x ≡ None
Ready fits call.Sum x = x ≡ None
Ready fits call.Probe x = x ≡ None
Ready fits call.BringBack x = x ≡ None
Ready fits call.Keep x = x ≡ None
Ready fits (call.Read q) None = ⊥
Ready fits (call.Read q) (Some x) = fits q x

-- and so for each call of a list
abbrev pub AllReady : {Q X : Type 0} → (Q → X → Type 0) → List (Call Q) → List (Option X) → Type 0
AllReady fits [] [] = Unit {0}
AllReady fits [] (x ∷ xs) = ⊥
AllReady fits (c ∷ cs) [] = ⊥
AllReady fits (c ∷ cs) (x ∷ xs) = Ready fits c x × AllReady fits cs xs
