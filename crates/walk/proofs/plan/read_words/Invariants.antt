use Rattle.std.proofs.Common.{map, take, string_bytes}
use Rattle.walk.specs.Words.{IsBlank, Led}
use Rattle.walk.proofs.plan.read_words.Given as goal

-- the words so far led from a plan before any word to this one
abbrev pub invariant-loop-word : goal.invariant-loop-word
invariant-loop-word l = IsBlank l.initial.plan × Led l.initial.plan (map string_bytes (take l.word-index l.words)) l.plan
