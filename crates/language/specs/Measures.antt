-- What is known of a type beside its cell: its height and its Ns, each counted as far as its word reaches. Assumes nothing.
use Rattle.std.specs.Prelude.{◌≡◌, ℕ, ◌+◌, ◌-◌, ◌^◌, min, max, Bool, List, get_or, slice_index_or}
use Rattle.calculus.specs.Types.{Ty, ◌⇒◌, ◌⊗◌}
use Rattle.syntax.specs.declared.program.TypeCell.{TypeCell}
use Rattle.syntax.specs.declared.program.TypeCell.TheVariants as kind
use Rattle.syntax.specs.Program.{DenotesType}
use Rattle.language.specs.declared.measure.Measure.{Measure}
use Rattle.language.specs.Infer.{same}

-- the measure of N
abbrev pub number : Measure
number = record { height = 0; naturals = 1 }

-- the measure of a type, from those of its two parts
abbrev pub joined : Measure → Measure → Measure
joined a b = record { height = min (max a.height b.height + 1) (2 ^ 64 - 1); naturals = min (a.naturals + b.naturals) (2 ^ 128 - 1) }

abbrev pub measure_of : Ty → Measure
measure_of Ty.N = number
measure_of (A ⇒ B) = joined (measure_of A) (measure_of B)
measure_of (A ⊗ B) = joined (measure_of A) (measure_of B)

-- the measure of a cell, from the table of those before it
abbrev pub measure_at : List Measure → TypeCell → Measure
measure_at ms kind.N = number
measure_at ms (kind.Arrow p q) = joined (slice_index_or ms p number) (slice_index_or ms q number)
measure_at ms (kind.Product p q) = joined (slice_index_or ms p number) (slice_index_or ms q number)

-- the table has the height, and the Ns, of each cell that stands for a type
abbrev pub HeightsOf : List TypeCell → List Measure → Type 0
HeightsOf cells measures = (k : ℕ) (A : Ty) → DenotesType cells k A → (get_or measures k number).height ≡ (measure_of A).height

abbrev pub NaturalsOf : List TypeCell → List Measure → Type 0
NaturalsOf cells measures = (k : ℕ) (A : Ty) → DenotesType cells k A → (get_or measures k number).naturals ≡ (measure_of A).naturals

-- the cell stands for some type
abbrev pub IsType : List TypeCell → ℕ → Type 0
IsType cells i = (A : Ty) × DenotesType cells i A

-- r says whether the two cells stand for equal types
abbrev pub SameTypes : List TypeCell → ℕ → ℕ → Bool → Type 0
SameTypes cells i j r = (A B : Ty) → DenotesType cells i A → DenotesType cells j B → r ≡ same A B

-- room for the type cells of a text's annotations, one of each sub-term, and N
abbrev pub type_room : ℕ
type_room = 4097
