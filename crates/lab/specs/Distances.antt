-- Walks of a token opened with the question, and the distance from question to a number. Assumes nothing.
use Rattle.std.specs.Prelude.{◌≡◌, ℕ, ◌↔◌, List, ℤ, pos, Some, Ok}
use Rattle.cells.specs.Ports.{Node}
use Rattle.machine.specs.Walks.{Place, opening}
use Rattle.runs.specs.declared.calls.Call.TheVariants as call
use Rattle.runs.specs.declared.calls.Answer.{Answer}
use Rattle.runs.specs.declared.calls.Answer.TheVariants as answer
use Rattle.runs.specs.Readings.{Reads}
use Rattle.runs.specs.Runs.{History, Does, Run}
use Rattle.token.specs.declared.memory.DataCell.TheVariants.{Question}
use Rattle.token.specs.State.{Rooms, State, opened, turned, number_of}
use Rattle.token.specs.Next.{next}
use Rattle.token.specs.Distance.{ToNumber, DistanceLaw}
use Rattle.token_machine.specs.declared.tokens.Token.{Token}
use Rattle.token_machine.specs.declared.queries.Query.{Query}
use Rattle.token_machine.specs.declared.queries.Query.TheVariants as query
use Rattle.token_machine.specs.Readings.{Reading, number, reading_of}
use Rattle.token_machine.specs.Tokens.{state_of}

-- what is read of a token's walk
abbrev pub TokenReads : State → ℤ → Query → Reading → Type 0
TokenReads = Reads state_of (λ (m : Token) z q. reading_of (state_of m) z q)

-- a run of calls on a token's walk that was opened with the question over these nodes and this memory
abbrev pub Asked : List Node → Rooms → History Query Reading → Place State → List ℤ → ℕ → ℕ → Type 0
Asked ns rs h p ps f b = Run next turned TokenReads (opening (opened ns rs Question)) h p ps f b

-- the sum is the distance from question to n
pub record Away (ns : List Node) (rs : Rooms) (n : ℕ) (sum : ℤ) : Type 0 where
  pub distance : ℕ
  pub is : sum ≡ pos distance
  pub reached : ToNumber ns rs n distance

pub record WalkDistances (ns : List Node) (rs : Rooms) : Type 0 where
  -- after any calls, the token brings n home exactly where the sum is the distance from question to n
  pub brings : {h : History Query Reading} {p : Place State} {ps : List ℤ} {f b : ℕ} → Asked ns rs h p ps f b → (n : ℕ) → (number_of p.state ≡ Some n) ↔ Away ns rs n p.sum
  -- and the call number returns n exactly there
  pub returns : {h : History Query Reading} {p q : Place State} {ps qs : List ℤ} {f b g c : ℕ} {a : Answer Reading} → Asked ns rs h p ps f b → Does next turned TokenReads p ps (call.Read query.Number) a q qs g c → (n : ℕ) → (a ≡ answer.Read (number (Ok n))) ↔ Away ns rs n p.sum
  -- that distance is the distance back from n to the question; at most one number has one, and it has only one
  pub distances : DistanceLaw ns rs

-- whatever nodes and memory there are
abbrev pub DistancesOfWalks : Type 0
DistancesOfWalks = (ns : List Node) (rs : Rooms) → WalkDistances ns rs
