use Rattle.std.proofs.Common.{◌≡◌, w64, to_z, of_z, rules}
use Rattle.writer.proofs.Writing.{wrote_is, wrote_more, wrote_to, wrote_from, signed_neg, signed_pos}
use Rattle.writer.proofs.Writer.signed.Goals as goal
use Rattle.writer.proofs.Writer.signed.Goals.{then-n-lt0, else-n-lt0}

pub returns : goal.returns
returns c =
    let z = c.args.n in
    let back : to_z w64 (of_z w64 z) ≡ z = search rules in
    let abs = c.unsigned_abs.ensures.value in
    elim c.if-n-lt0.branch [
      | then-n-lt0 w ↦ wrote_is (signed_neg z (to_z w64 (of_z w64 z)) _ back w.if-n-lt0.true abs) (wrote_more _ _ (wrote_to w.self-is w.put.ensures) c.number.ensures)
      | else-n-lt0 w ↦ wrote_is (signed_pos z (to_z w64 (of_z w64 z)) _ back w.if-n-lt0.false abs) (wrote_from w.self-is c.number.ensures)
    ]
