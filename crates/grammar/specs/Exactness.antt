-- That a text is accepted exactly when the grammar spells it and the linear rules derive it, within the limits. Assumes nothing.
use Rattle.std.specs.Prelude.{◌≡◌, ℕ, ◌<◌, ◌≤◌, ◌↔◌, List, [], length, Ok, Err, ◌≢◌}
use Rattle.calculus.specs.Types.{Ty, N}
use Rattle.calculus.specs.Terms.{iterators}
use Rattle.calculus.specs.Typing.{Typed}
use Rattle.syntax.specs.declared.refusal.Fault.{Fault}
use Rattle.syntax.specs.declared.refusal.Fault.TheVariants.{TooLong, NoNumber, ManyIterators}
use Rattle.syntax.specs.declared.refusal.Refusal.{Refusal}
use Rattle.syntax.specs.Trees.{Name, Tree, erase}
use Rattle.syntax.specs.Signs.{signs_of}
use Rattle.syntax.specs.Grammar.{Spells, Within}
use Rattle.syntax.specs.Names.{resolve, binders, fault}
use Rattle.grammar.specs.Derivations.{Derives}
use Rattle.grammar.specs.Faults.{First}
use Rattle.grammar.specs.Typings.{Alike}
use Rattle.grammar.specs.Reading.{Refused}
use Rattle.grammar.specs.Naming.{Distinct, WellNamed, Least}
use Rattle.language.specs.Judgements.{nobody}
use Rattle.language.specs.Accepts.{accepts}

-- the text spells t within the limits, no name is bound twice, and the empty context derives it at N
pub record Accepted (text : List ℕ) (t : Tree Name) : Type 0 where
  pub short : length text ≤ 16384
  pub spelled : Spells text t
  pub within : Within t
  pub once : Distinct (binders t)
  pub derived : Derives [] (erase (resolve [] t)) N
  pub few : iterators (erase (resolve [] t)) ≤ 64

abbrev pub AcceptedExactly : Type 0
AcceptedExactly = (text : List ℕ) (r : Tree ℕ) → (accepts text ≡ Ok r) ↔ ((t : Tree Name) × Accepted text t × (resolve [] t ≡ r))

-- the term is the only one, and so is the type of each of its sub-terms
pub record One (text : List ℕ) (t : Tree Name) : Type 0 where
  pub term : (u : Tree Name) → Spells text u → u ≡ t
  pub types : (A B : Ty) (d : Typed [] (erase (resolve [] t)) A) (d' : Typed [] (erase (resolve [] t)) B) → Alike d d'

abbrev pub AcceptedOne : Type 0
AcceptedOne = (text : List ℕ) (t : Tree Name) → Accepted text t → One text t

-- a term that the text spells within the limits, with well-used names
pub record Named (text : List ℕ) (t : Tree Name) : Type 0 where
  pub short : length text ≤ 16384
  pub spelled : Spells text t
  pub within : Within t
  pub named : WellNamed t

-- why a text is refused, and where: each question is asked once those before it are answered
pub data Rejected (text : List ℕ) : Refusal → Type 0 where
  too_long : 16384 < length text → Rejected text (fault TooLong 0)
  unread : {f : Refusal} → length text ≤ 16384 → Refused (length text) (signs_of text) f → Rejected text f
  misnamed : {f : Refusal} (t : Tree Name) → length text ≤ 16384 → Spells text t → Within t → Least t f → Rejected text f
  untyped : {f : Fault} {p : ℕ} (t : Tree Name) → Named text t → First nobody (resolve [] t) f p → Rejected text (fault f p)
  no_number : {A : Ty} (t : Tree Name) → Named text t → Derives [] (erase (resolve [] t)) A → (A ≢ N) → Rejected text (fault NoNumber 0)
  many_iterators : (t : Tree Name) → Named text t → Derives [] (erase (resolve [] t)) N → 64 < iterators (erase (resolve [] t)) → Rejected text (fault ManyIterators 0)

abbrev pub RejectedExactly : Type 0
RejectedExactly = (text : List ℕ) (f : Refusal) → (accepts text ≡ Err f) ↔ Rejected text f
