use Rattle.std.proofs.Common.{◌≡◌, decimal, ap, ◌∙◌, w64, to_z, of_z, rules}
use Rattle.std.specs.Fmt.{signed_decimal}
use Rattle.writer.proofs.Writing.{wrote_is, wrote_more}
use Rattle.lab.proofs.ends.EndText.write.Goals as goal

pub returns : goal.returns
returns c =
    let z = c.args.self.now.sum in
    let back : to_z w64 (of_z w64 z) ≡ z = search rules in
    wrote_more _ _ c.bytes.ensures (wrote_more _ _ (wrote_is (ap decimal (c.from.ensures ∙ c.number_of.ensures)) c.number.ensures) (
    wrote_more _ _ c.bytes-2.ensures (wrote_more _ _ (wrote_is (ap signed_decimal back) c.signed.ensures) (
    wrote_more _ _ c.bytes-3.ensures (wrote_more _ _ c.write_number.ensures
    c.bytes-4.ensures)))))
