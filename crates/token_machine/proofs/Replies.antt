-- What a show leaves in a buffer of zeros.
use Rattle.std.proofs.Common.{◌≡◌, ℕ, ◌-◌, ◌<◌, ◌≤◌, cond, List, ◌++◌, length, take, drop, replicate, Ok, Err, Result, sym, ap, ◌∙◌, arith}
use Rattle.std.proofs.lemmas.List.{length-replicate, take_all, take-append-le, drop-replicate}
use Rattle.machine.specs.declared.reasons.Reason.{Reason}
use Rattle.machine.specs.declared.reasons.Reason.TheVariants.{ShortBuffer}
use Rattle.token.proofs.Tests.{leb_yes, leb_no}
use Rattle.writer.specs.Written.{Shown}
use Rattle.token_machine.specs.Readings.{shown, shown_in}

-- a vector whose whole length was lent and came back holds what came back
pub whole : (n : ℕ) (new old : List ℕ) → n ≡ length new → take n (new ++ drop (length new) old) ≡ new
whole n new old e = take-append-le n new (drop (length new) old) (omega arith) ∙ take_all n new (omega arith)

pub shown_is : (text : List ℕ) (n : ℕ) (old new : List ℕ) (r : Result ℕ Reason) → old ≡ replicate n 0 → Shown text old new r → shown r new ≡ shown_in text n
shown_is text n old new (Ok k) e h =
    let long : length old ≡ n = ap length e ∙ length-replicate n 0 in
    let fits : length text ≤ n = omega (arith, h.0, h.1) in
    let rest : drop k old ≡ replicate (n - length text) 0 = ap (drop k) e ∙ drop-replicate k n 0 ∙ ap (λ m. replicate (n - m) 0) h.0 in
    (λ i. shown (Ok (h.0 i)) ((h.2 ∙ ap (λ l. text ++ l) rest) i))
    ∙ ap (λ b. cond b (shown (Ok (length text)) (text ++ replicate (n - length text) 0)) (shown (Err ShortBuffer) (replicate n 0))) (sym (leb_yes (length text) n fits))
shown_is text n old new (Err w) e h =
    let long : length old ≡ n = ap length e ∙ length-replicate n 0 in
    let short : n < length text = omega (arith, h.1) in
    (λ i. shown (Err (h.0 i)) ((h.2 ∙ e) i))
    ∙ ap (λ b. cond b (shown (Ok (length text)) (text ++ replicate (n - length text) 0)) (shown (Err ShortBuffer) (replicate n 0))) (sym (leb_no (length text) n short))
