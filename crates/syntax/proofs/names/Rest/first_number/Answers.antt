use Rattle.std.proofs.Common.{◌≡◌, ℕ, ◌<◌, Bool, true, false, List, ◌∷◌, length, get_or, Err, sym, refl, ap, ◌∙◌, arith}
use Rattle.syntax.specs.declared.refusal.Fault.{Fault}
use Rattle.syntax.specs.declared.refusal.Fault.TheVariants.{WrongSign, LargeNumber}
use Rattle.syntax.specs.Signs.{Placed, digits, digit, is_number, number_of, lex}
use Rattle.syntax.specs.Parse.{TermReader, refused, term_by}
use Rattle.syntax.specs.Names.{fault}
use Rattle.syntax.specs.Steps.{Counted}
use Rattle.syntax.proofs.Scanning.{run_all}
use Rattle.syntax.proofs.FirstSteps.{digits_front, by_number, by_large, by_no_number}
use Rattle.syntax.proofs.names.Rest.first_number.Goals as goal

failed : (end : ℕ) (s : List ℕ) (fits : Bool) (part : TermReader) (n m : ℕ) (f : Fault) {p : ℕ} {ds : List ℕ} {r : List Placed} → lex end s ≡ (p, digits ds) ∷ r → Counted ds (Err f) → term_by end fits part n m (lex end s) ≡ refused (fault f p)
failed end s fits part n m f {p} {ds} e x = go (is_number ds) refl
  where
    go : (v : Bool) → is_number ds ≡ v → term_by end fits part n m (lex end s) ≡ refused (fault f p)
    go true h = let y : (f ≡ LargeNumber) × (1000000000 < number_of ds) = rw (h, Counted) at x in by_large end s fits part n m e h y.1 ∙ ap (λ g. refused (fault g p)) (sym y.0)
    go false h = let y : f ≡ WrongSign = rw (h, Counted) at x in by_no_number end s fits part n m e h ∙ ap (λ g. refused (fault g p)) (sym y)

pub number-requires-clause-digits : goal.number-requires-clause-digits
number-requires-clause-digits c k h =
    let s = c.args.self.bytes.now in
    ap (λ w. digit (get_or w k 0)) c.run.ensures.front ∙ run_all digit s k (omega (arith, ap length c.run.ensures.front))

pub returns-in-Ok : goal.returns-in-Ok
returns-in-Ok c =
    let s = c.args.self.bytes.now in
    let e = digits_front c.args.self.end s c.run.result.0.now c.run.result.1.bytes.now c.requires.starts c.requires.digit c.run.ensures.front c.run.ensures.rest in
    let x = c.in-Ok.ensures in
    (λ fits part n m. by_number c.args.self.end s fits part n m e c.in-Ok.n x.0 x.1 x.2, cc)

pub returns-in-Err : goal.returns-in-Err
returns-in-Err c =
    let s = c.args.self.bytes.now in
    let e = digits_front c.args.self.end s c.run.result.0.now c.run.result.1.bytes.now c.requires.starts c.requires.digit c.run.ensures.front c.run.ensures.rest in
    λ fits part n m. failed c.args.self.end s fits part n m c.in-Err.fault e c.in-Err.ensures ∙ ap refused (sym c.refuse.ensures)
