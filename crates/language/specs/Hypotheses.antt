-- Which cell a variable's type has, by the hypotheses in force. Assumes nothing.
use Rattle.std.specs.Prelude.{ℕ, cond, List, [], ◌∷◌, ◌==◌}
use Rattle.language.specs.declared.context.Hypothesis.{Hypothesis}

-- the cell of a variable's type: its last hypothesis has it, and d has it where there is none
abbrev pub cell_of : ℕ → List Hypothesis → ℕ → ℕ
cell_of d [] b = d
cell_of d (h ∷ hs) b = cell_of (cond (h.binder == b) h.cell d) hs b
