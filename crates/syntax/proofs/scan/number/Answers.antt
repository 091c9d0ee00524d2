use Rattle.std.proofs.Common.{◌≡◌, ◌+◌, ◌<◌, ◌≤◌, true, refl, arith, rules}
use Rattle.std.proofs.lemmas.Bool.Decides.{nat_tests}
use Rattle.syntax.specs.Signs.{is_number, number_of}
use Rattle.syntax.proofs.Scanning.{number_more, number_front, plain-number}
use Rattle.syntax.proofs.scan.number.Goals as goal
use Rattle.syntax.proofs.scan.number.Goals.{then-run-lt2, else-run-lt2+in_default-1}

pub returns-then-value-digit : goal.returns-then-value-digit
returns-then-value-digit c =
    let s = c.args.run.now in
    let i = c.loop-b.b-index in
    let is : is_number s ≡ true = plain-number s c.requires.some (λ h e. elim c.if-run-lt2.branch [ then-run-lt2 w ↦ search rules | else-run-lt2+in_default-1 w ↦ search rules ]) in
    let more = number_more s i c.loop-b-test.true in
    let all = number_front s (i + 1) in
    let large : 1000000000 < number_of s = omega (arith, c.loop-b.invariant.0, c.from-digit.ensures, c.if-value-digit.true) in
    rw is (refl, large)

pub loop-b-preserved : goal.loop-b-preserved
loop-b-preserved c =
    let more = number_more c.args.run.now c.loop-b.b-index c.loop-b-test.true in
    let small : c.from-digit.result ≤ 9 = grind (arith, nat_tests, c.requires.digits c.loop-b.b-index c.loop-b-test.true, c.from-digit.ensures) in
    (omega (arith, c.loop-b.invariant.0, c.from-digit.ensures), omega (arith, c.if-value-digit.false))
