use Rattle.std.proofs.Common.{◌≡◌, length}
use Rattle.machine.specs.Standing.{stands}
use Rattle.token_machine.specs.Tokens.{state_of}
use Rattle.lab.specs.Listings.{rest_of}
use Rattle.tracer.proofs.write_all_lines.Given as goal

-- the lines that are still to be listed
abbrev pub decreases-loop-n : goal.decreases-loop-n
decreases-loop-n g l = length (rest_of l.listing.stage (stands state_of l.listing.walk))

-- the buffer keeps its length
abbrev pub invariant-loop-n : goal.invariant-loop-n
invariant-loop-n g l = length l.line ≡ length l.initial.line
