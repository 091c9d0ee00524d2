-- The state of a token: all that its steps look at. Assumes nothing.
use Rattle.std.specs.Prelude.{ℕ, Bool, true, false, cond, ◌&&◌, List, [], ◌∷◌, replicate, Some, None, Option, ◌==◌}
use Rattle.cells.specs.Ports.{Node, inside, link}
use Rattle.token.specs.declared.memory.DataCell.{DataCell}
use Rattle.token.specs.declared.memory.DataCell.TheVariants as dat
use Rattle.token.specs.Table.{Stacks}

-- the capacities in use: of m, i and d, and how many shelves have all their cells
pub record Rooms : Type 0 where
  pub letters : ℕ
  pub iters : ℕ
  pub datas : ℕ
  pub shelves : ℕ

pub record State : Type 0 where
  pub nodes : List Node
  pub from : ℕ
  pub to : ℕ
  pub stacks : Stacks
  pub rooms : Rooms

-- turned, the token goes the other way
abbrev pub turned : State → State
turned s = record { nodes = s.nodes; from = s.to; to = s.from; stacks = s.stacks; rooms = s.rooms }

-- the root's link, or port 0 if that link lies in no cell
abbrev pub entrance : List Node → ℕ
entrance ns = cond (inside ns (link ns 0)) (link ns 0) 0

-- stacks that are empty but for the data stack
abbrev pub only_datas : List DataCell → Stacks
only_datas ds = record { letters = []; iters = []; datas = ds; shelves = replicate 64 [] }

-- the token opened with a data cell, which is missing if there is no data memory
abbrev pub opened : List Node → Rooms → DataCell → State
opened ns rs d = record { nodes = ns; from = 0; to = entrance ns; stacks = only_datas (cond (rs.datas == 0) [] (d ∷ [])); rooms = rs }

abbrev pub is_empty : {X : Type 0} → List X → Bool
is_empty [] = true
is_empty (x ∷ xs) = false

abbrev pub all_empty : {X : Type 0} → List (List X) → Bool
all_empty [] = true
all_empty (xs ∷ xss) = is_empty xs && all_empty xss

-- towards port 0, with m, i and the shelves empty
abbrev pub is_home : State → Bool
is_home s = s.to == 0 && (is_empty s.stacks.letters && (is_empty s.stacks.iters && all_empty s.stacks.shelves))

-- the only cell, if there is just one
abbrev pub only : {X : Type 0} → List X → Option X
only [] = None
only (x ∷ []) = Some x
only (x ∷ (y ∷ ys)) = None

-- what a token that is home brings: the only cell on d
abbrev pub brings : State → Option DataCell
brings s = cond (is_home s) (only s.stacks.datas) None

abbrev pub number_in : Option DataCell → Option ℕ
number_in None = None
number_in (Some dat.Question) = None
number_in (Some (dat.Number n)) = Some n

-- the number that a token that is home brings
abbrev pub number_of : State → Option ℕ
number_of s = number_in (brings s)
