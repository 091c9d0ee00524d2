use Rattle.std.proofs.Common.{◌≡◌, ◌≤◌, true, false, length, sym, refl, ap, ◌∙◌, arith}
use Rattle.std.proofs.lemmas.Bool.Decides.{nat_tests}
use Rattle.syntax.specs.Signs.{is_name}
use Rattle.syntax.proofs.Scanning.{binder_hit, binder_miss, name_short}
use Rattle.syntax.proofs.names.Rest.binder.Goals as goal
use Rattle.syntax.proofs.names.Rest.binder.Goals.{then-is_empty-via-then-is_empty, then-is_empty-via-else-is_empty+then-not-is_name}

pub returns-then-is_empty : goal.returns-then-is_empty
returns-then-is_empty c =
    let e = c.run.ensures.front in
    let none : 1 ≤ length c.run.result.0.now → is_name c.run.result.0.now ≡ false =
    λ h. elim c.then-is_empty.branch [ then-is_empty-via-then-is_empty w ↦ absurd (grind (arith, nat_tests, w.if-is_empty.true)) | then-is_empty-via-else-is_empty+then-not-is_name w ↦ cc ] in
    let miss = binder_miss c.args.self.end c.args.self.bytes.now c.skip-rest.result.bytes.now c.skip-rest.ensures.bytes (λ h. ap is_name (sym e) ∙ none (omega (arith, ap length e))) in
    cc

pub returns : goal.returns
returns c =
    let e = c.run.ensures.front in
    let name : is_name c.run.result.0.now ≡ true = cc in
    let some : 1 ≤ length c.run.result.0.now = grind (arith, nat_tests, c.if-is_empty.false, c.is_empty.ensures) in
    let hit = binder_hit c.args.self.end c.args.self.bytes.now c.skip-rest.result.bytes.now c.skip-rest.ensures.bytes (omega (arith, ap length e)) (ap is_name (sym e) ∙ name) in
    (record { place = c.place-place.result; name = c.run.result.0.now }, cc, record { is = refl; short = name_short c.run.result.0.now name }, cc)
