-- A token's state and a walk's sum as a line of text. Assumes nothing.
use Rattle.std.specs.Prelude.{ℕ, List, ◌++◌, ℤ, codes, decimal}
use Rattle.std.specs.Fmt.{signed_decimal}
use Rattle.stack.specs.Shelving.{cells_held}
use Rattle.token.specs.declared.memory.Letter.{Letter}
use Rattle.token.specs.declared.memory.Letter.TheVariants.{Left, Right}
use Rattle.token.specs.declared.memory.IterCell.{IterCell}
use Rattle.token.specs.declared.memory.IterCell.TheVariants as iter
use Rattle.token.specs.declared.memory.DataCell.{DataCell}
use Rattle.token.specs.declared.memory.DataCell.TheVariants as dat
use Rattle.token.specs.State.{State}
use Rattle.writer.specs.Written.{listed}

abbrev pub letter_text : Letter → List ℕ
letter_text Left = codes "l"
letter_text Right = codes "r"

abbrev pub iter_text : IterCell → List ℕ
iter_text (iter.Number a) = decimal a
iter_text (iter.Pair a b) = decimal a ++ (codes "/" ++ decimal b)

abbrev pub data_text : DataCell → List ℕ
data_text dat.Question = codes "*"
data_text (dat.Number a) = decimal a

-- the sum, the ports and the stacks, each with its top first; of the shelves only how many cells they hold
abbrev pub line : State → ℤ → List ℕ
line s n =
    codes "step=" ++ (signed_decimal n ++ (codes " from=" ++ (decimal s.from ++ (codes " to=" ++ (decimal s.to
    ++ (codes " m=" ++ (listed letter_text s.stacks.letters ++ (codes " i=" ++ (listed iter_text s.stacks.iters
    ++ (codes " s=" ++ (decimal (cells_held s.stacks.shelves) ++ (codes " d=" ++ (listed data_text s.stacks.datas ++ codes "\n")))))))))))))
