-- A worked case, by computation over the rules: the addition machine opened out at 3/2.
use Rattle.std.specs.Prelude.{pos, negsuc, Some}
use Rattle.machine.specs.declared.reasons.Reason.TheVariants.{Home}
use Rattle.machine.specs.declared.addition.Direction.TheVariants.{Out}
use Rattle.machine.specs.declared.headings.Heading.TheVariants.{Up, Down}
use Rattle.machine.specs.Additions.{standing, onward, mirrored}
use Rattle.machine.specs.Walks.{place, opening, Asked}

-- ten steps forward: three are granted, to 0/5, and then it is home (21)
abbrev pub TenOut : Type 0
TenOut = Asked Up onward mirrored 10 (opening (standing 3 2 Out)) (place (standing 0 5 Out) (pos 3)) (3, Some Home)

-- then ten back: five are granted, to 5/0, and it is home the other way; the sum is −2
abbrev pub TenBack : Type 0
TenBack = Asked Down onward mirrored 10 (place (standing 0 5 Out) (pos 3)) (place (standing 5 0 Out) (negsuc 1)) (5, Some Home)

abbrev pub OutAndBack : Type 0
OutAndBack = TenOut × TenBack
