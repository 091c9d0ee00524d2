use Rattle.std.proofs.Common.{◌≡◌, [], map, take, string_bytes, sym, ap, ◌∙◌, arith, refl, inl, inr, append-nil}
use Rattle.std.proofs.lemmas.List.{take_all}
use Rattle.walk.specs.Words.{none_yet}
use Rattle.walk.proofs.plan.read_words.Goals as goal

pub loop-word-init : goal.loop-word-init
loop-word-init c = (c.new-plan.ensures, none_yet)

pub returns-in-Number : goal.returns-in-Number
returns-in-Number c =
    let i = c.loop-word.word-index in
    let ws = c.args.words.now in
    let all : take i ws ≡ ws = take_all i ws (omega arith) in
    record {
      start = c.new-plan.result;
      blank = c.loop-word.invariant.0;
      before = map string_bytes (take i ws);
      after = [];
      all = sym (append-nil (map string_bytes (take i ws)) ∙ ap (map string_bytes) all);
      reached = c.loop-word.plan;
      led = c.loop-word.invariant.1;
      stops = (c.in-Number.field-0, c.in-Number.is, refl);
    }

pub returns : goal.returns
returns c = record {
  start = c.new-plan.result;
  blank = c.loop-word.invariant.0;
  led = rw (take_all c.loop-word.word-index c.args.words.now (omega arith)) at c.loop-word.invariant.1;
  whole = λ k e. elim c.in-First.is [ inl f ↦ cc | inr f ↦ cc ];
}
