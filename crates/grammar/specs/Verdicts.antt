-- What a check promises of one text: its one term and what memory holds of it, or why it is refused. Assumes nothing.
use Rattle.std.specs.Prelude.{ℕ, List, [], Ok, Err, Result}
use Rattle.syntax.specs.declared.refusal.Refusal.{Refusal}
use Rattle.syntax.specs.Trees.{Name, Tree}
use Rattle.syntax.specs.Names.{resolve}
use Rattle.language.specs.declared.program.Program.{Program}
use Rattle.language.specs.Accepts.{Holds}
use Rattle.grammar.specs.Exactness.{Accepted, One, Rejected}

abbrev pub Verdict : List ℕ → Result Program Refusal → Type 0
Verdict text (Ok p) = (t : Tree Name) × Accepted text t × One text t × Holds p.subterms.now p.types.now p.typings.now p.root p.facts (resolve [] t)
Verdict text (Err f) = Rejected text f × ((t : Tree Name) → Accepted text t → ⊥)
