-- The line that answers a text: the counts of its program, or why it is refused. Assumes nothing.
use Rattle.std.specs.Prelude.{◌≡◌, ℕ, List, [], Ok, Err, Result}
use Rattle.syntax.specs.declared.refusal.Refusal.{Refusal}
use Rattle.syntax.specs.Trees.{Name, Tree}
use Rattle.syntax.specs.Names.{resolve, refusal_text}
use Rattle.language.specs.declared.counts.Facts.{Facts}
use Rattle.language.specs.Accepts.{Known}
use Rattle.language.specs.Printed.{counts_text}
use Rattle.grammar.specs.Exactness.{Accepted, Rejected}

-- the counts of the text's term, or the refusal of the first question that says no
abbrev pub Examined : List ℕ → Result Facts Refusal → Type 0
Examined text (Ok f) = (t : Tree Name) × Accepted text t × Known (resolve [] t) f
Examined text (Err x) = Rejected text x

abbrev pub line_of : Result Facts Refusal → List ℕ
line_of (Ok f) = counts_text f
line_of (Err x) = refusal_text x

-- the line tells what the text is examined to be
pub record Answer (text line : List ℕ) : Type 0 where
  pub result : Result Facts Refusal
  pub examined : Examined text result
  pub is : line ≡ line_of result
