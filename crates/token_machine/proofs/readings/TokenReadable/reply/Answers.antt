use Rattle.std.proofs.Common.{◌≡◌, length, replicate, vec_items, sym, ap, ◌∙◌, subst, w64, to_z, of_z, rules}
use Rattle.token.specs.Line.{line}
use Rattle.token_machine.specs.Readings.{Ready, shown, shown_in, reading_of}
use Rattle.token_machine.specs.Tokens.{state_of}
use Rattle.token_machine.proofs.Replies.{whole, shown_is}
use Rattle.token_machine.proofs.readings.TokenReadable.reply.Goals as goal

pub returns-in-Show : goal.returns-in-Show
returns-in-Show c =
    let v = c.args.room in
    let z = c.args.sum in
    let new = c.show-shown.new.buf in
    let r = c.show-shown.result in
    let n = c.in-Show.field-0 in
    let s = state_of c.args.self.now in
    let zeros : vec_items v ≡ replicate n 0 = subst (λ q. Ready q v) c.in-Show.is c.requires in
    let long : v.len ≡ length new = v.ok.0 ∙ ap length (sym c.as_mut_slice.ensures.value) ∙ sym c.show-shown.auto.buf in
    let y = to_z w64 (of_z w64 z) in
    let back : y ≡ z = search rules in
    let read = shown_is (line s y) n c.as_mut_slice.result.now new r (c.as_mut_slice.ensures.value ∙ zeros) c.show-shown.ensures in
    λ m e.
    ap (shown r) (whole v.len new v.items long)
    ∙ read
    ∙ ap (λ x. shown_in (line s x) n) back
    ∙ ap (reading_of s z) (sym c.in-Show.is)
    ∙ ap (λ x. reading_of x z c.args.query.now) (sym e)
