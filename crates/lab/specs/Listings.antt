-- The listing of a walk: the line of each state from where it stands, and then how it ended. Assumes nothing.
use Rattle.std.specs.Prelude.{◌≡◌, ℕ, zero, suc, ◌+◌, ◌<◌, ◌≤◌, List, [], ◌∷◌, length, pos, Some, None, Ok, Err, Option, Result, slice_index_or}
use Rattle.machine.specs.declared.reasons.Reason.{Reason}
use Rattle.machine.specs.declared.headings.Heading.TheVariants.{Up}
use Rattle.machine.specs.Steps.{Next, to, ends, go}
use Rattle.machine.specs.Walks.{Place, opening, may}
use Rattle.token.specs.State.{State, number_of}
use Rattle.token.specs.Next.{next}
use Rattle.token.specs.Line.{line}
use Rattle.writer.specs.Written.{Shown}
use Rattle.lab.specs.declared.stages.Stage.{Stage}
use Rattle.lab.specs.declared.stages.Stage.TheVariants.{Lines, End, Over}
use Rattle.lab.specs.Ends.{end_text}

-- how a walk ended that stands at p
abbrev pub end_line : Option Reason → Place State → List ℕ
end_line why p = end_text (record { why = why; sum = p.sum; number = number_of p.state })

abbrev pub line_at : Place State → List ℕ
line_at p = line p.state p.sum

-- by whether there is a next
abbrev pub by_next : {P A : Type 0} → (Reason → A) → (P → A) → Next P → A
by_next stop on (to p) = on p
by_next stop on (ends w) = stop w

-- from p on, with so many steps left to take: a line for each place, until no step may be taken or none is left, and then the end
unfoldable pub lines : ℕ → Place State → List (List ℕ)
lines zero p = line_at p ∷ (end_line None p ∷ [])
lines (suc left) p = line_at p ∷ by_next (λ w. end_line (Some w) p ∷ []) (lines left) (may Up next p)

-- the last of some lines
abbrev pub last_of : List (List ℕ) → List ℕ
last_of [] = []
last_of (l ∷ []) = l
last_of (l ∷ (m ∷ ms)) = last_of (m ∷ ms)

-- a listing goes on for at most 100,000 steps
abbrev pub longest : ℕ
longest = 100000

-- the listing of a token, from sum 0 on
abbrev pub listing : State → List (List ℕ)
listing s = lines longest (opening s)

-- the place k next states after the opening
abbrev pub placed : ℕ → State → Place State
placed k t = record { state = t; sum = pos k }

-- what a listing tells of the token's way
pub record Told (s : State) : Type 0 where
  -- line k is the line of the state k next states on
  pub each : (k : ℕ) (t : State) → k ≤ longest → go next k s ≡ to t → slice_index_or (listing s) k [] ≡ line_at (placed k t)
  -- where the way ends after k steps, the end line stands after their lines, and is the last
  pub stopped : (k : ℕ) (t : State) (w : Reason) → k < longest → go next k s ≡ to t → next t ≡ ends w → (slice_index_or (listing s) (k + 1) [] ≡ end_line (Some w) (placed k t)) × (length (listing s) ≡ k + 2)
  -- and so where it is cut off after 100,000
  pub cut : (t : State) → go next longest s ≡ to t → (slice_index_or (listing s) (longest + 1) [] ≡ end_line None (placed longest t)) × (length (listing s) ≡ longest + 2)

abbrev pub ListingsTell : Type 0
ListingsTell = (s : State) → Told s

-- what is still to be listed of a walk at p
abbrev pub rest_of : Stage → Place State → List (List ℕ)
rest_of (Lines left) p = lines left p
rest_of (End why) p = end_line why p ∷ []
rest_of Over p = []

-- of what was to be listed the first line stands in the buffer, and the rest is still to be listed;
-- or there was none; or the line is longer than the buffer, and all is as it was
abbrev pub Listed : (before after : List (List ℕ)) (old new : List ℕ) → Result (Option ℕ) Reason → Type 0
Listed before after old new (Ok (Some n)) = (l : List ℕ) × (before ≡ l ∷ after) × Shown l old new (Ok n)
Listed before after old new (Ok None) = (before ≡ []) × (after ≡ []) × (new ≡ old)
Listed before after old new (Err w) = (l : List ℕ) × (more : List (List ℕ)) × (before ≡ l ∷ more) × (after ≡ before) × Shown l old new (Err w)
