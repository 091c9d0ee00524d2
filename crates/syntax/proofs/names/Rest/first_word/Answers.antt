use Rattle.std.proofs.Common.{◌≡◌, codes, sym, ap, ◌∙◌, rules}
use Rattle.std.proofs.lemmas.Slice.Eq.{text_from_reads}
use Rattle.syntax.specs.Parse.{refused}
use Rattle.syntax.proofs.FirstSteps.{word_front, by_let, by_iter_lem, by_name, by_no_name}
use Rattle.syntax.proofs.names.Rest.first_word.Goals as goal

pub returns-in-let : goal.returns-in-let
returns-in-let c =
    let w = c.run.result.0.now in
    let e = word_front c.args.self.end c.args.self.bytes.now w c.run.result.1.bytes.now c.requires.starts c.requires.letter c.run.ensures.front c.run.ensures.rest in
    let f : w ≡ codes "let" = text_from_reads _ _ (search rules) (search rules) in
    (λ fits part n m. by_let c.args.self.end c.args.self.bytes.now fits part n m e f, cc)

pub returns-in-iter : goal.returns-in-iter
returns-in-iter c =
    let w = c.run.result.0.now in
    let e = word_front c.args.self.end c.args.self.bytes.now w c.run.result.1.bytes.now c.requires.starts c.requires.letter c.run.ensures.front c.run.ensures.rest in
    let f : w ≡ codes "iter" = text_from_reads _ _ (search rules) (search rules) in
    (λ fits part n m. by_iter_lem c.args.self.end c.args.self.bytes.now fits part n m e f, cc)

pub returns-then-not-is_name : goal.returns-then-not-is_name
returns-then-not-is_name c =
    let w = c.run.result.0.now in
    let e = word_front c.args.self.end c.args.self.bytes.now w c.run.result.1.bytes.now c.requires.starts c.requires.letter c.run.ensures.front c.run.ensures.rest in
    let a : w ≡ codes "let" → ⊥ = search rules in
    let b : w ≡ codes "iter" → ⊥ = search rules in
    λ fits part n m. by_no_name c.args.self.end c.args.self.bytes.now fits part n m e a b (sym c.is_name.ensures ∙ c.if-not-is_name.true) ∙ ap refused (sym c.refuse.ensures)

pub returns-else-not-is_name : goal.returns-else-not-is_name
returns-else-not-is_name c =
    let w = c.run.result.0.now in
    let e = word_front c.args.self.end c.args.self.bytes.now w c.run.result.1.bytes.now c.requires.starts c.requires.letter c.run.ensures.front c.run.ensures.rest in
    let a : w ≡ codes "let" → ⊥ = search rules in
    let b : w ≡ codes "iter" → ⊥ = search rules in
    (λ fits part n m. by_name c.args.self.end c.args.self.bytes.now fits part n m e a b (sym c.is_name.ensures ∙ c.if-not-is_name.false), cc)
