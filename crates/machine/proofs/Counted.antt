-- The worked case, by computation.
use Rattle.std.proofs.Common.{◌≡◌, ℤ, pos, negsuc, Some, refl, ap, ◌∙◌, lit<, lit≤}
use Rattle.machine.specs.declared.reasons.Reason.TheVariants.{Home}
use Rattle.machine.specs.declared.addition.Direction.TheVariants.{Out}
use Rattle.machine.specs.declared.headings.Heading.TheVariants.{Up, Down}
use Rattle.machine.specs.Steps.{go}
use Rattle.machine.specs.Additions.{Standing, standing, onward, mirrored}
use Rattle.machine.specs.Walks.{Place, place, opening, Grant, Asked, few}
use Rattle.machine.specs.Worked.{TenOut, TenBack, OutAndBack}
use Rattle.machine.specs.Lawful.{addition_laws}
use Rattle.machine.proofs.Going.{asked_once}

ten_out : TenOut
unfolding go
ten_out = few (lit≤ tt) (record { came = refl; why = (lit< tt, refl) })

ten_back : TenBack
unfolding go
ten_back = few (lit≤ tt) (record { came = refl; why = (lit< tt, refl) })

pub out_and_back : OutAndBack
out_and_back = (ten_out, ten_back)

-- so both calls can only answer that
pub answered : (p q z : Place Standing) (a d : Grant) (s : ℤ) → p ≡ opening (standing 3 2 Out) → Asked Up onward mirrored 10 p q a → Asked Down onward mirrored 10 q z d → s ≡ z.sum → ◌≡◌ {A = Grant × Grant × ℤ} (a, d, s) ((3, Some Home), (5, Some Home), negsuc 1)
answered p q z a d s ep r t es =
    let out = asked_once addition_laws Up 10 (opening (standing 3 2 Out)) q (place (standing 0 5 Out) (pos 3)) a (3, Some Home) (rw ep at r) ten_out in
    let back = asked_once addition_laws Down 10 (place (standing 0 5 Out) (pos 3)) z (place (standing 5 0 Out) (negsuc 1)) d (5, Some Home) (rw out.1 at t) ten_back in
    by a d s out.0 back.0 (es ∙ ap (λ (w : Place Standing). w.sum) back.1)
  where
    by : (a d : Grant) (s : ℤ) → a ≡ (3, Some Home) → d ≡ (5, Some Home) → s ≡ negsuc 1 → ◌≡◌ {A = Grant × Grant × ℤ} (a, d, s) ((3, Some Home), (5, Some Home), negsuc 1)
    by a d s ea ed es = rw (ea, ed, es) refl
