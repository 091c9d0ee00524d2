-- The addition machine: one is passed from a to b, or back from b to a.
use Rattle.std.specs.Prelude.{ℕ, ◌+◌, ◌-◌, cond, ◌==◌, nat_le}
use Rattle.machine.specs.Steps.{Next, to, ends, then}
use Rattle.machine.specs.declared.reasons.Reason.TheVariants.{Home, Overflow}
use Rattle.machine.specs.declared.addition.Direction.{Direction}
use Rattle.machine.specs.declared.addition.Direction.TheVariants.{Out, Home as Homeward}

pub record Standing : Type 0 where
  pub a : ℕ
  pub b : ℕ
  pub direction : Direction

abbrev pub standing : ℕ → ℕ → Direction → Standing
standing a b d = record { a = a; b = b; direction = d }

-- one passes from the giver to the taker: home where the giver has none, and no number passes 4,294,967,295
-- (no machine has a giver above that; the way ends there too, so that the laws hold of every state)
abbrev pub passing : ℕ × ℕ → Next (ℕ × ℕ)
passing p =
    cond (p.0 == 0) (ends Home)
    (cond (nat_le 4294967295 p.1) (ends Overflow)
    (cond (nat_le p.0 4294967295) (to (p.0 - 1, p.1 + 1)) (ends Overflow)))

-- out, a gives to b; home is the mirror
abbrev pub onward_by : Direction → ℕ → ℕ → Next Standing
onward_by Out a b = then (passing (a, b)) (λ p. to (standing p.0 p.1 Out))
onward_by Homeward a b = then (passing (b, a)) (λ p. to (standing p.1 p.0 Homeward))

abbrev pub onward : Standing → Next Standing
onward x = onward_by x.direction x.a x.b

abbrev pub opposite : Direction → Direction
opposite Out = Homeward
opposite Homeward = Out

-- turned, the machine goes the other way
abbrev pub mirrored : Standing → Standing
mirrored x = standing x.a x.b (opposite x.direction)
