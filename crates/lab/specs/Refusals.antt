-- A refusal as a line of text. Assumes nothing.
use Rattle.std.specs.Prelude.{ℕ, List, ◌++◌, codes, decimal}
use Rattle.syntax.specs.Names.{number}
use Rattle.syntax.specs.declared.refusal.Refusal.{Refusal}

abbrev pub refusal_text : Refusal → List ℕ
refusal_text f = codes "refused=" ++ (decimal (number f.fault) ++ (codes " place=" ++ (decimal f.place ++ codes "\n")))
