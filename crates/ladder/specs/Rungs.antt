-- A ladder of a thousand rungs.
use Rattle.std.specs.Prelude.{◌≡◌, ℕ, ◌+◌, ◌-◌, Bool, true, false, cond, not, ◌==◌, nat_le, nat_lt}
use Rattle.machine.specs.declared.reasons.Reason.TheVariants.{Home, NoRow}
use Rattle.machine.specs.declared.headings.Heading.TheVariants.{Up}
use Rattle.machine.specs.Steps.{Next, to, ends}
use Rattle.machine.specs.Strides.{Strided, strided, stride, stride_turned, counted}
use Rattle.machine.specs.Walks.{Place, opening, Grant, Asked}

pub record Rung : Type 0 where
  pub height : ℕ
  pub upward : Bool

abbrev pub rung : ℕ → Bool → Rung
rung n up = record { height = n; upward = up }

-- the top rung has none above it, and the ground is home; no ladder is higher than its top
abbrev pub climb_by : Bool → ℕ → Next Rung
climb_by true n = cond (nat_lt n 1000) (to (rung (n + 1) true)) (ends NoRow)
climb_by false n = cond (n == 0) (ends Home) (cond (nat_le n 1000) (to (rung (n - 1) false)) (ends NoRow))

abbrev pub climb : Rung → Next Rung
climb x = climb_by x.upward x.height

abbrev pub other_way : Rung → Rung
other_way x = rung x.height (not x.upward)

-- by strides of k, `wanted` of them were wanted at x: so many were granted, and then the ladder was brought back to y
pub record Tried (k wanted : ℕ) (x : Rung) (a : Grant) (y : Rung) : Type 0 where
  pub reached : Place (Strided Rung)
  pub went : Asked Up (stride climb) (stride_turned other_way) wanted (opening (strided (counted k) x)) reached a
  pub same : y ≡ x
