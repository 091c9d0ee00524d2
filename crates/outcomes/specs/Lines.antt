-- The line that answers a text: how its program ends, or why it is refused. Assumes nothing.
use Rattle.std.specs.Prelude.{◌≡◌, ℕ, ◌≤◌, List, length, Option, Ok, Err, Result}
use Rattle.std.specs.Io.KnownBytes.{Appends}
use Rattle.machine.specs.declared.reasons.Reason.{Reason}
use Rattle.token.specs.declared.memory.DataCell.TheVariants.{Question}
use Rattle.token_machine.specs.declared.tokens.Token.{Token}
use Rattle.token_machine.specs.Tokens.{state_of}
use Rattle.writer.specs.Written.{Shown}
use Rattle.lab.specs.declared.memory.Memory.{Memory}
use Rattle.lab.specs.declared.memory.Reserve.{Reserve}
use Rattle.lab.specs.declared.refusals.Refused.{Refused}
use Rattle.lab.specs.Listings.{last_of, listing}
use Rattle.lab.specs.Memories.{Lent}
use Rattle.lab.specs.Opening.{Opened}
use Rattle.lab.specs.Refusals.{refusal_text}

-- the last line of the listing, or the refusal
abbrev pub line_of : Result Token Refused → List ℕ
line_of (Ok token) = last_of (listing (state_of token))
line_of (Err refused) = refusal_text refused.refusal

-- the text is opened with the question in this lent memory, and that is its line
pub record Answered (text : List ℕ) (lent : Reserve) (line : List ℕ) : Type 0 where
  pub memory : Memory
  pub whole : Lent lent memory
  pub result : Result Token Refused
  pub opened : Opened text memory Question result
  pub is : line ≡ line_of result

-- the text's line stands at the buffer's front
pub record Ends (text : List ℕ) (lent : Reserve) (old new : List ℕ) (r : Result ℕ Reason) : Type 0 where
  pub line : List ℕ
  pub answered : Answered text lent line
  pub shown : Shown line old new r

-- what a writer holds before and after the text's line, of so many bytes at most, was written
pub record Told (text : List ℕ) (lent : Reserve) (most : ℕ) (before after : Option (List ℕ)) : Type 0 where
  pub line : List ℕ
  pub answered : Answered text lent line
  pub fits : length line ≤ most
  pub written : Appends before after line
