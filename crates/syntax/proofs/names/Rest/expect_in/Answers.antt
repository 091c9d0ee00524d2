use Rattle.std.proofs.Common.{◌≡◌, codes, sym, ◌∙◌, rules}
use Rattle.std.proofs.lemmas.Slice.Eq.{text_from_reads}
use Rattle.syntax.proofs.Scanning.{in_hit, in_miss}
use Rattle.syntax.proofs.names.Rest.expect_in.Goals as goal

pub returns-in-in : goal.returns-in-in
returns-in-in c =
    let e : c.run.result.0.now ≡ codes "in" = text_from_reads _ _ (search rules) (search rules) in
    let hit = in_hit c.args.self.end c.args.self.bytes.now c.skip-rest.result.bytes.now c.skip-rest.ensures.bytes (sym c.run.ensures.front ∙ e) in
    (cc, cc)

pub returns-in_default : goal.returns-in_default
returns-in_default c =
    let ne : c.run.result.0.now ≡ codes "in" → ⊥ = search rules in
    let miss = in_miss c.args.self.end c.args.self.bytes.now c.skip-rest.result.bytes.now c.skip-rest.ensures.bytes (λ e. ne (c.run.ensures.front ∙ e)) in
    cc
