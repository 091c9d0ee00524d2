-- How sub-terms are counted, parts before wholes. Assumes nothing.
use Rattle.std.specs.Prelude.{ℕ, ◌+◌, ◌-◌, ◌^◌, ◌<◌, ◌≤◌, min, List, length, slice_index_or}
use Rattle.calculus.specs.Terms.{subterms}
use Rattle.syntax.specs.declared.program.Shape.{Shape}
use Rattle.syntax.specs.declared.program.Shape.TheVariants.{Variable, Number, Successor, Function, Application, Pair, Let, Iterator}
use Rattle.syntax.specs.declared.program.Subterm.{Subterm}
use Rattle.syntax.specs.declared.program.TypeCell.{TypeCell}
use Rattle.syntax.specs.Trees.{Tree, erase}
use Rattle.syntax.specs.Program.{Denotes}
use Rattle.network.specs.declared.part.Part.{Part}
use Rattle.network.specs.declared.part.Count.{Count}
use Rattle.network.specs.Parts.{no_part, Linear, Holds}

-- a sum that stops at the limit of its word
abbrev pub sum : ℕ → ℕ → ℕ
sum a b = min (a + b) (2 ^ 64 - 1)

-- two parts; n nodes more; n binders, each used once; a Transfer node for each free use
abbrev pub both : Count → Count → Count
both a b = record { nodes = sum a.nodes b.nodes; uses = sum a.uses b.uses }

abbrev pub with_nodes : ℕ → Count → Count
with_nodes n a = record { nodes = sum a.nodes n; uses = a.uses }

abbrev pub without_uses : ℕ → Count → Count
without_uses n a = record { nodes = a.nodes; uses = a.uses - n }

abbrev pub with_transfers : Count → Count
with_transfers a = record { nodes = sum a.nodes a.uses; uses = a.uses }

abbrev pub count_at : List Part → ℕ → Count
count_at parts i = (slice_index_or parts i no_part).count

-- the counts of a sub-term, from those of its parts
abbrev pub count_of : List Part → Shape → Count
count_of parts (Variable x) = record { nodes = 0; uses = 1 }
count_of parts (Number n) = record { nodes = 1; uses = 0 }
count_of parts (Successor t) = with_nodes 1 (count_at parts t)
count_of parts (Function x a t) = with_nodes 1 (without_uses 1 (count_at parts t))
count_of parts (Application t u) = with_nodes 1 (both (count_at parts t) (count_at parts u))
count_of parts (Pair t u) = with_nodes 1 (both (count_at parts t) (count_at parts u))
count_of parts (Let x y t u) = with_nodes 1 (both (count_at parts t) (without_uses 2 (count_at parts u)))
count_of parts (Iterator t u v) = with_nodes 4 (both (count_at parts t) (both (with_transfers (count_at parts u)) (with_transfers (count_at parts v))))

-- the parts counted so far are the terms that the sub-terms are, where these use each variable once
abbrev pub Planned : List Subterm → List Part → Type 0
Planned subs parts = (types : List TypeCell) (i : ℕ) (t : Tree ℕ) → i < length parts → Denotes subs types i t → Linear (erase t) → subterms (erase t) ≤ 2048 → Holds parts i (erase t)
