-- What a text is answered: its questions, from reading to the last. Assumes nothing.
use Rattle.std.specs.Prelude.{◌≡◌, ℕ, ◌≤◌, cond, List, [], length, Ok, Err, Result, ◌≢◌, nat_le}
use Rattle.calculus.specs.Types.{Ty, N, ◌⇒◌, ◌⊗◌}
use Rattle.calculus.specs.Terms.{subterms, successors, iterators}
use Rattle.calculus.specs.Typing.{Typed, weight, tallest}
use Rattle.syntax.specs.declared.refusal.Refusal.{Refusal}
use Rattle.syntax.specs.declared.refusal.Fault.TheVariants.{NoNumber, ManyIterators}
use Rattle.syntax.specs.declared.program.TypeCell.{TypeCell}
use Rattle.syntax.specs.declared.program.Subterm.{Subterm}
use Rattle.syntax.specs.Trees.{Tree, erase}
use Rattle.syntax.specs.Program.{Denotes}
use Rattle.syntax.specs.Names.{fault}
use Rattle.syntax.specs.Answer.{Spans}
use Rattle.syntax.specs.Reads.{reads}
use Rattle.language.specs.declared.typing.Typing.{Typing}
use Rattle.language.specs.declared.counts.Facts.{Facts}
use Rattle.language.specs.declared.program.Program.{Program}
use Rattle.language.specs.Infer.{Checked, good, bad, infer}
use Rattle.language.specs.Judgements.{judgements, nobody, sum, share, highest}
use Rattle.language.specs.Checks.{Lists}

-- whether a program's type is N
abbrev pub Numbers : Ty → Result Unit Refusal → Type 0
Numbers A (Ok u) = A ≡ N
Numbers A (Err x) = (x ≡ fault NoNumber 0) × (A ≢ N)

-- a program has at most 64 iterators
abbrev pub iterated : Tree ℕ → Result (Tree ℕ) Refusal
iterated t = cond (nat_le (iterators (erase t)) 64) (Ok t) (Err (fault ManyIterators 0))

-- a program has the type N
abbrev pub numbered : Tree ℕ → Checked → Result (Tree ℕ) Refusal
numbered t (good N) = iterated t
numbered t (good (A ⇒ B)) = Err (fault NoNumber 0)
numbered t (good (A ⊗ B)) = Err (fault NoNumber 0)
numbered t (bad f p) = Err (fault f p)

-- types are asked for once a text is read, whole and with its names
abbrev pub typed : Result (Tree ℕ) Refusal → Result (Tree ℕ) Refusal
typed (Ok t) = numbered t (infer nobody t)
typed (Err f) = Err f

-- the answer to a text: its program, or the refusal of the first question that says no
abbrev pub accepts : List ℕ → Result (Tree ℕ) Refusal
accepts text = typed (reads text)

-- the facts of a program: counts of its term and of its sub-terms' types, and in the words of any derivation
pub record Known (t : Tree ℕ) (f : Facts) : Type 0 where
  pub tall : (d : Typed [] (erase t) N) → f.height ≡ tallest d
  pub weighs : (d : Typed [] (erase t) N) → f.weight ≡ weight d
  pub subterms : f.subterms ≡ subterms (erase t)
  pub iterators : f.iterators ≡ iterators (erase t)
  pub successors : f.successors ≡ successors (erase t)
  pub height : f.height ≡ highest (judgements nobody t)
  pub weight : f.weight ≡ sum share (judgements nobody t)

-- memory holds the program: its sub-terms one after another, the type of each, and its facts
pub record Holds (subs : List Subterm) (cells : List TypeCell) (typings : List Typing) (root : ℕ) (f : Facts) (t : Tree ℕ) : Type 0 where
  pub denotes : Denotes subs cells root t
  pub spans : Spans subs cells 0 root t
  pub types : Lists subs cells typings (judgements nobody t)
  pub facts : Known t f

-- a tree in memory, within the limits of reading
pub record Given (subs : List Subterm) (cells : List TypeCell) (root : ℕ) : Type 0 where
  pub tree : Tree ℕ
  pub denotes : Denotes subs cells root tree
  pub few : subterms (erase tree) ≤ 2048
  pub short : length cells ≤ 2048

-- what the questions on types answer for a tree, and what memory holds then
abbrev pub Concludes : List Subterm → ℕ → Tree ℕ → List TypeCell → List Typing → Result Facts Refusal → Type 0
Concludes subs root t cells typings (Ok f) = (numbered t (infer nobody t) ≡ Ok t) × Holds subs cells typings root f t
Concludes subs root t cells typings (Err x) = numbered t (infer nobody t) ≡ Err x

-- the answer to a text: a program that memory holds, or the refusal
abbrev pub Answers : List ℕ → Result Program Refusal → Type 0
Answers text (Ok p) = (t : Tree ℕ) × (accepts text ≡ Ok t) × Holds p.subterms.now p.types.now p.typings.now p.root p.facts t
Answers text (Err x) = accepts text ≡ Err x

-- the same in the workspace's own memory, with the number of the whole
abbrev pub Leaves : List ℕ → List Subterm → List TypeCell → List Typing → Result (ℕ × Facts) Refusal → Type 0
Leaves text subs cells typings (Ok a) = (t : Tree ℕ) × (accepts text ≡ Ok t) × Holds subs cells typings a.0 a.1 t
Leaves text subs cells typings (Err x) = accepts text ≡ Err x
