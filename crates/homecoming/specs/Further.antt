-- Memory may hold more cells than the network takes. Assumes nothing.
use Rattle.std.specs.Prelude.{ℕ, List, ◌++◌}
use Rattle.cells.specs.Ports.{Node}
use Rattle.cells.specs.Sound.{Sound}
use Rattle.token.specs.State.{Rooms}
use Rattle.token.specs.Distance.{ToNumber}
use Rattle.token.specs.Reach.{Numbered}

-- whatever nodes stand behind a sound network, the distance from question to a number is the same
abbrev pub FurtherNodesDoNoHarm : Type 0
FurtherNodesDoNoHarm = (ns rest : List Node) (rs : Rooms) (n d : ℕ) → Sound ns → ToNumber ns rs n d → ToNumber (ns ++ rest) rs n d

-- and there is no distance to a number but that over the network alone
abbrev pub FurtherNodesBringNoOther : Type 0
FurtherNodesBringNoOther = (ns rest : List Node) (rs : Rooms) (n d : ℕ) → Numbered ns → Sound ns → ToNumber (ns ++ rest) rs n d → ToNumber ns rs n d
