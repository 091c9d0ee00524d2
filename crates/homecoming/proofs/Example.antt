-- (\x:N.S x 3) and its way home, by computation.
use Rattle.std.proofs.Common.{refl, arith}
use Rattle.cells.specs.Ports.{inside, link, linked}
use Rattle.geometry.specs.Examples.{applied}
use Rattle.geometry.specs.Network.{network}
use Rattle.machine.specs.Steps.{go}
use Rattle.token.specs.Next.{next, row_for}
use Rattle.homecoming.specs.Programs.{Program, Enough}
use Rattle.homecoming.specs.Example.{derivation, rooms, Met}
use Rattle.homecoming.proofs.Programs.{networked, sufficed}

program : Program applied
program = record { plain = refl; numbers = (tt, omega arith); few = omega arith }

enough : Enough derivation (rooms 1 2)
enough = record { letters = omega arith; datas = omega arith }

pub met : Met
unfolding go next row_for inside link linked network
met = record {
  program = program;
  enough = enough;
  typed = networked applied derivation program;
  suffices = sufficed applied derivation (rooms 1 2) enough;
  distance = record { last = _; way = refl; number = refl };
  returned = record { last = _; way = refl; home = refl; question = refl };
  longest = refl;
  letters = refl;
  datas = refl;
}
