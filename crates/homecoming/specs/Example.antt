-- (\x:N.S x 3): what is supposed can be met, in exactly the memory that is asked for, and the bound is reached. Assumes nothing.
use Rattle.std.specs.Prelude.{◌≡◌, ℕ, ◌+◌, ◌*◌, []}
use Rattle.calculus.specs.Types.{N}
use Rattle.calculus.specs.Typing.{Typed, ty_app, ty_lam, ty_succ, ty_var, ty_num, here, none_left, weight}
use Rattle.geometry.specs.Derivations.{label}
use Rattle.geometry.specs.Examples.{applied}
use Rattle.geometry.specs.Network.{network}
use Rattle.machine.specs.declared.reasons.Reason.TheVariants.{Full}
use Rattle.machine.specs.Steps.{ends, go}
use Rattle.token.specs.declared.memory.DataCell.TheVariants.{Question}
use Rattle.token.specs.State.{Rooms, opened}
use Rattle.token.specs.Next.{next}
use Rattle.token.specs.Distance.{ToNumber, ToQuestion}
use Rattle.homecoming.specs.Home.{Network, Suffices}
use Rattle.homecoming.specs.Programs.{Program, Enough}

abbrev pub derivation : Typed [] applied N
derivation = ty_app (ty_lam (ty_succ ty_var) (here none_left)) ty_num

-- so many letter cells and data cells, and no others
abbrev pub rooms : ℕ → ℕ → Rooms
rooms m d = record { letters = m; iters = 0; datas = d; shelves = 0 }

pub record Met : Type 0 where
  pub program : Program applied
  pub enough : Enough derivation (rooms 1 2)
  pub typed : Network (network applied) (label derivation)
  pub suffices : Suffices (network applied) (label derivation) (rooms 1 2)
  -- 4 after 11 steps, one less than twice the weight 6
  pub distance : ToNumber (network applied) (rooms 1 2) 4 11
  -- and opened with 4 it is back at the question after as many
  pub returned : ToQuestion (network applied) (rooms 1 2) 4 11
  pub longest : 11 + 1 ≡ 2 * weight derivation
  -- with one letter cell less, or one data cell less, the token is stopped
  pub letters : go next 11 (opened (network applied) (rooms 0 2) Question) ≡ ends Full
  pub datas : go next 11 (opened (network applied) (rooms 1 1) Question) ≡ ends Full
