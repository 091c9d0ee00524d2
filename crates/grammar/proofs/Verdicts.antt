-- The answer to a text, in the words of the grammar and the typing rules.
use Rattle.std.proofs.Common.{◌≡◌, ℕ, List, [], Ok, Err, Result, sym, refl, ◌∙◌, subst, arith}
use Rattle.syntax.specs.declared.refusal.Refusal.{Refusal}
use Rattle.syntax.specs.Names.{resolve}
use Rattle.language.specs.declared.program.Program.{Program}
use Rattle.language.specs.Accepts.{Holds, Answers}
use Rattle.grammar.specs.Verdicts.{Verdict}
use Rattle.grammar.proofs.Exact.{exactly, one, rejected}

pub verdict : (text : List ℕ) (r : Result Program Refusal) → Answers text r → Verdict text r
verdict text (Ok p) (r, e, h) =
    let a = (exactly text r).0 e in
    (a.0, a.1, one text a.0 a.1, subst (Holds p.subterms.now p.types.now p.typings.now p.root p.facts) (sym a.2) h)
verdict text (Err f) e = ((rejected text f).0 e, λ t a. let c : Ok (resolve [] t) ≡ Err f = sym ((exactly text (resolve [] t)).1 (t, a, refl)) ∙ e in let z : ◌≡◌ {A = ℕ} 0 1 = cc in omega arith)
