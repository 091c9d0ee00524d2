use Rattle.std.proofs.Common.{◌≡◌, ◌-◌, ◌≤◌, true, false, ltb, length, get_or, sym, refl, ap, ◌∙◌, inl, inr, arith, rules}
use Rattle.std.proofs.lemmas.Bool.Decides.{nat_tests}
use Rattle.syntax.specs.declared.signs.Joint.TheVariants.{Arrow, Product}
use Rattle.syntax.specs.declared.refusal.Fault.TheVariants.{PassedLimit}
use Rattle.syntax.proofs.TypeSteps.{joint_here, joint_other}
use Rattle.syntax.proofs.names.Rest.joint.Goals as goal
use Rattle.syntax.proofs.names.Rest.joint.Goals.{in_default-via-then-rest-lt1, in_default-via-else-rest-lt1+in_default-1, in-62, in-42}

pub returns-in_default : goal.returns-in_default
returns-in_default c =
    let rest = c.skip-rest.result.bytes.now in
    let none : 1 ≤ length rest → (get_or rest 0 0 ≡ 62 → ⊥) × (get_or rest 0 0 ≡ 42 → ⊥) =
    λ h. elim c.in_default.branch [ in_default-via-then-rest-lt1 w ↦ absurd (search rules) | in_default-via-else-rest-lt1+in_default-1 w ↦ (λ x. search rules, λ x. search rules) ] in
    let other = joint_other c.args.self.end c.args.self.bytes.now rest c.skip-rest.ensures.bytes c.args.count none in
    cc

pub returns-then-count-ge-SIGNS : goal.returns-then-count-ge-SIGNS
returns-then-count-ge-SIGNS c =
    let end = c.args.self.end in
    let rest = c.skip-rest.result.bytes.now in
    let here = joint_here end c.args.self.bytes.now rest c.skip-rest.ensures.bytes in
    let full : ltb c.args.count 2048 ≡ false = grind (arith, nat_tests) in
    let at : c.refuse-then-count-ge-SIGNS.result ≡ record { fault = PassedLimit; place = end - length rest } = cc in
    elim c.match-this.branch [ in-62 w ↦ here (search rules) c.args.count 62 Arrow (search rules) (inl (refl, refl)) ∙ rw (full, at) refl | in-42 w ↦ here (search rules) c.args.count 42 Product (search rules) (inr (refl, refl)) ∙ rw (full, at) refl ]

pub returns : goal.returns
returns c =
    let rest = c.skip-rest.result.bytes.now in
    let here = joint_here c.args.self.end c.args.self.bytes.now rest c.skip-rest.ensures.bytes in
    let room : ltb c.args.count 2048 ≡ true = grind (arith, nat_tests) in
    elim c.match-this.branch [
      | in-62 w ↦ (let after = sym (c.with.ensures.bytes ∙ ap (λ r. r.1.now) w.joint-is) in (Arrow, here (search rules) c.args.count 62 Arrow (search rules) (inl (refl, refl)) ∙ rw (room, after) refl, sym (ap (λ r. r.0) w.joint-is), cc))
      | in-42 w ↦ (let after = sym (c.with.ensures.bytes ∙ ap (λ r. r.1.now) w.joint-is) in (Product, here (search rules) c.args.count 42 Product (search rules) (inr (refl, refl)) ∙ rw (room, after) refl, sym (ap (λ r. r.0) w.joint-is), cc))
    ]
