use Rattle.std.proofs.Common.{◌≡◌, decimal, sym, ap, w64, to_z, of_z, rules}
use Rattle.std.specs.Fmt.{signed_decimal}
use Rattle.token.specs.Line.{letter_text, iter_text, data_text}
use Rattle.writer.specs.Written.{listed}
use Rattle.writer.proofs.Writing.{wrote_is, wrote_more}
use Rattle.token_machine.proofs.lines.LineText.write.Goals as goal

pub returns : goal.returns
returns c =
    let z = c.args.self.now.sum in
    let back : to_z w64 (of_z w64 z) ≡ z = search rules in
    wrote_more _ _ c.bytes.ensures (wrote_more _ _ (wrote_is (ap signed_decimal back) c.signed.ensures) (
    wrote_more _ _ c.bytes-2.ensures (wrote_more _ _ (wrote_is (ap decimal c.from.ensures) c.number.ensures) (
    wrote_more _ _ c.bytes-3.ensures (wrote_more _ _ (wrote_is (ap decimal c.from-2.ensures) c.number-2.ensures) (
    wrote_more _ _ c.bytes-4.ensures (wrote_more _ _ (wrote_is (ap (listed letter_text) (sym c.as_slice.ensures)) c.stack.ensures) (
    wrote_more _ _ c.bytes-5.ensures (wrote_more _ _ (wrote_is (ap (listed iter_text) (sym c.as_slice-2.ensures)) c.stack-2.ensures) (
    wrote_more _ _ c.bytes-6.ensures (wrote_more _ _ (wrote_is (ap decimal c.count.ensures) c.number-3.ensures) (
    wrote_more _ _ c.bytes-7.ensures (wrote_more _ _ (wrote_is (ap (listed data_text) (sym c.as_slice-3.ensures)) c.stack-3.ensures)
    c.bytes-8.ensures)))))))))))))
