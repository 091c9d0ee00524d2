-- Distances between the question and its answer. Assumes nothing.
use Rattle.std.specs.Prelude.{◌≡◌, ℕ, true, List, [], ◌∷◌, Some}
use Rattle.cells.specs.Ports.{Node}
use Rattle.machine.specs.Steps.{to, go}
use Rattle.token.specs.declared.memory.DataCell.TheVariants.{Question, Number}
use Rattle.token.specs.State.{Rooms, State, opened, is_home, number_of}
use Rattle.token.specs.Next.{next}

-- from question to n: d next states lead from the token opened with * to one whose number is n
pub record ToNumber (ns : List Node) (rs : Rooms) (n d : ℕ) : Type 0 where
  pub last : State
  pub way : go next d (opened ns rs Question) ≡ to last
  pub number : number_of last ≡ Some n

-- from n to question: d next states lead from the token opened with n to one that is home with one * on d
pub record ToQuestion (ns : List Node) (rs : Rooms) (n d : ℕ) : Type 0 where
  pub last : State
  pub way : go next d (opened ns rs (Number n)) ≡ to last
  pub home : is_home last ≡ true
  pub question : last.stacks.datas ≡ Question ∷ []

-- over any nodes and memory the two distances are the same, at most one number has one, and it has only one
pub record DistanceLaw (ns : List Node) (rs : Rooms) : Type 0 where
  pub there : (n d : ℕ) → ToNumber ns rs n d → ToQuestion ns rs n d
  pub back : (n d : ℕ) → ToQuestion ns rs n d → ToNumber ns rs n d
  pub one : (m n d e : ℕ) → ToNumber ns rs m d → ToNumber ns rs n e → (m ≡ n) × (d ≡ e)
  pub once : (m n d e : ℕ) → ToQuestion ns rs m d → ToQuestion ns rs n e → (m ≡ n) × (d ≡ e)

abbrev pub DistancesAgree : Type 0
DistancesAgree = (ns : List Node) (rs : Rooms) → DistanceLaw ns rs
