use Rattle.std.proofs.Common.{◌≡◌, ℕ, ◌+◌, ◌%◌, [], ◌∷◌, sym, ap, ◌∙◌, arith}
use Rattle.std.proofs.lemmas.Fmt.{decimal_digit, decimal_step}
use Rattle.writer.proofs.Writing.{wrote_more, wrote_is, wrote_to, wrote_from}
use Rattle.writer.proofs.Writer.+number.Goals as goal
use Rattle.writer.proofs.Writer.+number.Goals.{then-n-ge10, else-n-ge10}

pub returns : goal.returns
returns t c =
    let n = c.args.n in
    elim c.if-n-ge10.branch [
      | then-n-ge10 w ↦ wrote_is (sym (decimal_step n (omega arith) (omega arith))) (wrote_more _ _ (wrote_to w.self-is w.number.ensures) c.put.ensures)
      | else-n-ge10 w ↦
          let low : n % 10 ≡ n = omega arith in
          wrote_is (ap (λ (d : ℕ). (48 + d) ∷ []) low ∙ sym (decimal_digit n (omega arith))) (wrote_from w.self-is c.put.ensures)
    ]
