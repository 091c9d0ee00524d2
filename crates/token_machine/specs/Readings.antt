-- What is read of a token's walk: its line in a buffer, and its number. Assumes nothing.
use Rattle.std.specs.Prelude.{◌≡◌, ℕ, ◌-◌, cond, List, ◌++◌, length, replicate, ℤ, Some, None, Ok, Err, vec_items, Option, Result, Vec, nat_le}
use Rattle.machine.specs.declared.reasons.Reason.{Reason}
use Rattle.machine.specs.declared.reasons.Reason.TheVariants.{NoNumber, ShortBuffer}
use Rattle.token.specs.State.{State, number_of}
use Rattle.token.specs.Line.{line}
use Rattle.token_machine.specs.declared.queries.Query.{Query}
use Rattle.token_machine.specs.declared.queries.Query.TheVariants as query
use Rattle.token_machine.specs.declared.queries.Reply.{Reply}
use Rattle.token_machine.specs.declared.queries.Reply.TheVariants as reply

-- the answer of a show with the buffer after it; the answer of a number
pub data Reading : Type 0 where
  shown : Result ℕ Reason → List ℕ → Reading
  number : Result ℕ Reason → Reading

-- a text shown in a buffer of n zeros
abbrev pub shown_in : (text : List ℕ) (n : ℕ) → Reading
shown_in text n =
    cond (nat_le (length text) n)
    (shown (Ok (length text)) (text ++ replicate (n - length text) 0))
    (shown (Err ShortBuffer) (replicate n 0))

abbrev pub or_none : Option ℕ → Result ℕ Reason
or_none None = Err NoNumber
or_none (Some n) = Ok n

-- the reading of a state at a sum
abbrev pub reading_of : State → ℤ → Query → Reading
reading_of s z (query.Show n) = shown_in (line s z) n
reading_of s z query.Number = number (or_none (number_of s))

-- what a reply says
abbrev pub told : Reply → Reading
told (reply.Shown r buf) = shown r (vec_items buf)
told (reply.Number r) = number r

-- the room made for a reply: the buffer that a show wants
abbrev pub Ready : {Z : Type 0} → Query → Vec ℕ Z → Type 0
Ready (query.Show n) v = vec_items v ≡ replicate n 0
Ready query.Number v = Unit {0}
