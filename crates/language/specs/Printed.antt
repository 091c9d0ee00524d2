-- What a program's counts are printed as. Assumes nothing.
use Rattle.std.specs.Prelude.{ℕ, List, ◌++◌, codes, decimal}
use Rattle.language.specs.declared.counts.Facts.{Facts}

abbrev pub counts_text : Facts → List ℕ
counts_text f = codes "subterms=" ++ (decimal f.subterms ++ (codes " iterators=" ++ (decimal f.iterators ++ (codes " successors=" ++ (decimal f.successors ++ (codes " height=" ++ (decimal f.height ++ (codes " weight=" ++ decimal f.weight))))))))
