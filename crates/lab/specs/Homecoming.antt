-- Every accepted text without iterator comes home with a number. Assumes nothing.
use Rattle.std.specs.Prelude.{◌≡◌, ℕ, List, ◌++◌}
use Rattle.cells.specs.Ports.{Node}
use Rattle.calculus.specs.Terms.{iterators}
use Rattle.calculus.specs.Typing.{weight}
use Rattle.syntax.specs.Trees.{Name, Tree}
use Rattle.geometry.specs.Network.{network}
use Rattle.grammar.specs.Exactness.{Accepted}
use Rattle.network.specs.Building.{term_of}
use Rattle.token.specs.State.{Rooms}
use Rattle.homecoming.specs.Home.{Home}
use Rattle.homecoming.specs.Programs.{Enough}

-- in memory that is enough, a letter cell for each unit of the greatest type height among its sub-terms and a data cell more than it has S signs,
-- the token comes home with a number: the distance from question to it is odd, and at most one less than twice the text's weight;
-- and that over its network, whatever nodes stand behind it
abbrev pub AcceptedComeHome : Type 0
AcceptedComeHome = (text : List ℕ) (t : Tree Name) (a : Accepted text t) → iterators (term_of t) ≡ 0 → (rest : List Node) (rs : Rooms) → Enough a.derived.derived rs → Home (network (term_of t) ++ rest) rs (weight a.derived.derived)
