-- What a text is read as: a term whose occurrences are known by their binders, or a refusal. Assumes nothing.
use Rattle.std.specs.Prelude.{ℕ, cond, List, [], length, Some, None, Ok, Err, Option, Result, nat_le}
use Rattle.syntax.specs.declared.refusal.Fault.TheVariants.{TooLong}
use Rattle.syntax.specs.declared.refusal.Refusal.{Refusal}
use Rattle.syntax.specs.Trees.{Name, Tree}
use Rattle.syntax.specs.Signs.{signs_of}
use Rattle.syntax.specs.Parse.{Out, got, refused, whole}
use Rattle.syntax.specs.Names.{resolve, name_fault, fault}

-- the faults of names are asked of a whole term only
abbrev pub or_fault : Tree Name → Option Refusal → Result (Tree ℕ) Refusal
or_fault t None = Ok (resolve [] t)
or_fault t (Some f) = Err f

abbrev pub named : Out (Tree Name) → Result (Tree ℕ) Refusal
named (got t s) = or_fault t (name_fault t)
named (refused f) = Err f

abbrev pub reads : List ℕ → Result (Tree ℕ) Refusal
reads text = cond (nat_le (length text) 16384) (named (whole (length text) (signs_of text))) (Err (fault TooLong 0))
