-- Closed programs of type N without iterator, by their derivations. Assumes nothing.
use Rattle.std.specs.Prelude.{◌≡◌, ◌+◌, ◌*◌, ◌≤◌, []}
use Rattle.cells.specs.Ports.{absent}
use Rattle.calculus.specs.Types.{N}
use Rattle.calculus.specs.Terms.{Term, successors, iterators, nodes}
use Rattle.calculus.specs.Typing.{Typed, weight, tallest}
use Rattle.geometry.specs.Derivations.{NumbersWithin}
use Rattle.geometry.specs.Network.{network}
use Rattle.token.specs.State.{Rooms}
use Rattle.homecoming.specs.Home.{Home}

-- without iterator, with numbers up to 1,000,000,000, and small enough that no port has the number of an absent one
pub record Program (t : Term) : Type 0 where
  pub plain : iterators t ≡ 0
  pub numbers : NumbersWithin 1000000000 t
  pub few : 3 * (1 + nodes t) ≤ absent

-- a letter cell for each unit of the greatest type height among the sub-terms, and a data cell more than there are S signs
pub record Enough {t : Term} (d : Typed [] t N) (rs : Rooms) : Type 0 where
  pub letters : tallest d ≤ rs.letters
  pub datas : 1 + successors t ≤ rs.datas

-- every such program comes home with a number, after an odd number of steps, at most one less than twice its weight
abbrev pub ProgramsComeHome : Type 0
ProgramsComeHome = (t : Term) (d : Typed [] t N) (rs : Rooms) → Program t → Enough d rs → Home (network t) rs (weight d)
