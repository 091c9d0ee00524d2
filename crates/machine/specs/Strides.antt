-- k next states of the machine below taken as one.
use Rattle.std.specs.Prelude.{ℕ, min, max}
use Rattle.machine.specs.Steps.{Next, to, then, go}

-- how a k counts: 0 as 1, and above 1,000 as 1,000
abbrev pub counted : ℕ → ℕ
counted k = min 1000 (max 1 k)

pub record Strided (S : Type 0) : Type 0 where
  pub k : ℕ
  pub below : S

abbrev pub strided : {S : Type 0} → ℕ → S → Strided S
strided k x = record { k = k; below = x }

-- k next states below, or the reason met there
abbrev pub stride : {S : Type 0} → (S → Next S) → Strided S → Next (Strided S)
stride next x = then (go next x.k x.below) (λ y. to (strided x.k y))

abbrev pub stride_turned : {S : Type 0} → (S → S) → Strided S → Strided S
stride_turned turned x = strided x.k (turned x.below)
