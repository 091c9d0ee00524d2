-- How a walk ended, as a line of text. Assumes nothing.
use Rattle.std.specs.Prelude.{ℕ, List, ◌++◌, Some, None, codes, decimal, Option}
use Rattle.std.specs.Fmt.{signed_decimal}
use Rattle.machine.specs.declared.reasons.Reason.{Reason}
use Rattle.machine.specs.Reasons.{number_of}
use Rattle.lab.specs.declared.ends.End.{End}

-- the number of the reason, and 0 where no further step was asked for
abbrev pub end_number : Option Reason → ℕ
end_number None = 0
end_number (Some w) = number_of w

-- the number that was brought home, and - where none was
abbrev pub number_text : Option ℕ → List ℕ
number_text None = codes "-"
number_text (Some n) = decimal n

abbrev pub end_text : End → List ℕ
end_text e =
    codes "end=" ++ (decimal (end_number e.why) ++ (codes " steps=" ++ (signed_decimal e.sum ++ (codes " number=" ++ (number_text e.number ++ codes "\n")))))
