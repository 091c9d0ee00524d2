-- Ways of n next states, made longer by one.
use Rattle.std.proofs.Common.{◌≡◌, ℕ, suc, ◌+◌, ap, ◌∙◌, arith}
use Rattle.machine.specs.Steps.{Next, to, then, go}
use Rattle.machine.specs.Lawful.{go_first}
use Rattle.machine.proofs.Ways.{go_more}

-- a step first, and a step last
pub first_step : {S : Type 0} (f : S → Next S) (n : ℕ) (x y : S) → f x ≡ to y → go f (suc n) x ≡ go f n y
first_step f n x y e = go_first f n x ∙ ap (λ o. then o (go f n)) e

pub last_step : {S : Type 0} (f : S → Next S) (n : ℕ) (x y z : S) → go f n x ≡ to y → f y ≡ to z → go f (suc n) x ≡ to z
last_step f n x y z h e = let is : suc n ≡ n + 1 = omega arith in ap (λ n. go f n x) is ∙ go_more f n x y z h e
