use Rattle.std.proofs.Common.{◌≡◌, ◌≤◌, length, get_or, rules}
use Rattle.syntax.proofs.Lexing.{front_at}
use Rattle.syntax.proofs.Scanning.{expect_hit, expect_miss}
use Rattle.syntax.proofs.names.Rest.expect.Goals as goal
use Rattle.syntax.proofs.names.Rest.expect.Goals.{in_default-via-then-rest-lt1, in_default-via-in-len1-up+else-b-mark}

pub returns-in-len1-up : goal.returns-in-len1-up
returns-in-len1-up c =
    let rest = c.skip-rest.result.bytes.now in
    let h : 1 ≤ length rest = search rules in
    let g : get_or rest 0 0 ≡ c.args.mark = search rules in
    let hit = expect_hit c.args.self.end c.args.self.bytes.now c.args.mark rest _ c.skip-rest.ensures.bytes (front_at rest c.args.mark h g) c.requires.1 c.requires.2 in
    (cc, cc)

pub returns-in_default : goal.returns-in_default
returns-in_default c =
    let rest = c.skip-rest.result.bytes.now in
    let other : 1 ≤ length rest → get_or rest 0 0 ≡ c.args.mark → ⊥ =
    λ h e. elim c.in_default.branch [ in_default-via-then-rest-lt1 w ↦ search rules | in_default-via-in-len1-up+else-b-mark w ↦ search rules ] in
    let miss = expect_miss c.args.self.end c.args.self.bytes.now c.args.mark rest c.skip-rest.ensures.bytes other in
    cc
