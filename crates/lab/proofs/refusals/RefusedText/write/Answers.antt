use Rattle.std.proofs.Common.{decimal, ap, ◌∙◌}
use Rattle.writer.proofs.Writing.{wrote_is, wrote_more}
use Rattle.lab.proofs.refusals.RefusedText.write.Goals as goal

pub returns : goal.returns
returns c =
    wrote_more _ _ c.bytes.ensures (wrote_more _ _ (wrote_is (ap decimal (c.from-2.ensures ∙ c.from.ensures)) c.number.ensures) (
    wrote_more _ _ c.bytes-2.ensures (wrote_more _ _ c.number-2.ensures c.bytes-3.ensures)))
