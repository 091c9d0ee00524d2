-- What is counted of a checked program. Assumes nothing.
use Rattle.std.specs.Prelude.{◌≡◌, ℕ, ◌<◌, ◌≤◌, List, length, Ok, Err, Result}
use Rattle.syntax.specs.declared.refusal.Refusal.{Refusal}
use Rattle.syntax.specs.declared.refusal.Fault.TheVariants.{ManyIterators}
use Rattle.syntax.specs.declared.program.TypeCell.{TypeCell}
use Rattle.syntax.specs.declared.program.Shape.{Shape}
use Rattle.syntax.specs.declared.program.Shape.TheVariants.{Variable, Number, Successor, Function, Application, Pair, Let, Iterator}
use Rattle.syntax.specs.declared.program.Subterm.{Subterm}
use Rattle.language.specs.declared.typing.Typing.{Typing}
use Rattle.language.specs.declared.measure.Measure.{Measure}
use Rattle.language.specs.declared.counts.Facts.{Facts}
use Rattle.language.specs.Judgements.{Judgement, sum, a_successor, an_iterator, share, highest, Low}
use Rattle.language.specs.Checks.{Lists}

-- what a sub-term adds to each count, by its shape
abbrev pub successor_at : Shape → ℕ
successor_at (Variable b) = 0
successor_at (Number n) = 0
successor_at (Successor i) = 1
successor_at (Function b a i) = 0
successor_at (Application i j) = 0
successor_at (Pair i j) = 0
successor_at (Let b c i j) = 0
successor_at (Iterator i j k) = 0

abbrev pub iterator_at : Shape → ℕ
iterator_at (Variable b) = 0
iterator_at (Number n) = 0
iterator_at (Successor i) = 0
iterator_at (Function b a i) = 0
iterator_at (Application i j) = 0
iterator_at (Pair i j) = 0
iterator_at (Let b c i j) = 0
iterator_at (Iterator i j k) = 1

abbrev pub share_at : Shape → Measure → ℕ
share_at (Variable b) m = m.naturals
share_at (Number n) m = m.naturals
share_at (Successor i) m = m.naturals
share_at (Function b a i) m = m.naturals
share_at (Application i j) m = m.naturals
share_at (Pair i j) m = m.naturals
share_at (Let b c i j) m = 0
share_at (Iterator i j k) m = m.naturals

-- the typings of at most 2048 sub-terms, whose types are low
pub record Countable (subs : List Subterm) (cells : List TypeCell) (typings : List Typing) : Type 0 where
  pub judged : List Judgement
  pub lists : Lists subs cells typings judged
  pub low : Low judged
  pub few : length typings ≤ 2048

-- the facts are the sums over the judgements
pub record Counts (js : List Judgement) (f : Facts) : Type 0 where
  pub subterms : f.subterms ≡ length js
  pub iterators : f.iterators ≡ sum (λ j. an_iterator j.subject) js
  pub successors : f.successors ≡ sum (λ j. a_successor j.subject) js
  pub height : f.height ≡ highest js
  pub weight : f.weight ≡ sum share js

-- the counts, unless there are more than 64 iterators
abbrev pub Limited : List Judgement → Result Facts Refusal → Type 0
Limited js (Ok f) = Counts js f × (sum (λ j. an_iterator j.subject) js ≤ 64)
Limited js (Err x) = (x ≡ record { fault = ManyIterators; place = 0 }) × (64 < sum (λ j. an_iterator j.subject) js)
