use Rattle.std.proofs.Common.{◌≡◌, ℕ, ℤ, pos, refl, ap, ◌∙◌}
use Rattle.machine.specs.declared.headings.Heading.TheVariants.{Up}
use Rattle.machine.specs.declared.strides.Stride.{Stride}
use Rattle.machine.specs.Strides.{Strided, strided, stride, stride_turned, counted}
use Rattle.machine.specs.Walks.{Place, place, opening, Grant, Asked, Brought}
use Rattle.machine.specs.Lawful.{stride_laws}
use Rattle.runs.proofs.Whole.{home_again}
use Rattle.ladder.specs.declared.Ladder.{Ladder}
use Rattle.ladder.specs.Rungs.{Rung, rung, climb, other_way, Tried}
use Rattle.ladder.specs.Lawful.{ladder_laws}
use Rattle.ladder.proofs.up_and_back.Goals as goal

-- the run law at a stride over a ladder: a probe taken at the opening is reached again
tried : (k wanted : ℕ) (x y : Rung) (a d : Grant) (p q z : Place (Strided Rung)) (t : ℤ) → p ≡ opening (strided (counted k) x) → t ≡ pos 0
    → Asked Up (stride climb) (stride_turned other_way) wanted p q a → Brought (stride climb) (stride_turned other_way) t q z d → y ≡ z.state.below → Tried k wanted x a y
tried k wanted x y a d p q z t ep et r b ey =
    let went = rw ep at r in
    let home = home_again (stride_laws ladder_laws) (strided (counted k) x) wanted q z a d went (rw et at b) in
    record { reached = q; went = went; same = ey ∙ ap (λ (w : Place (Strided Rung)). w.state.below) home.1 }

abbrev at : Stride Ladder → ℤ → Place (Strided Rung)
at m s = place (strided m.k (rung m.below.height m.below.upward)) s

pub returns : goal.returns
returns c =
    let new = c.new-walk.result in
    let gone = c.forward-grant.new.self in
    let home = c.bring_back.new.self in
    let opened : at new.machine new.sum.value ≡ opening (strided (counted c.args.k) (rung c.args.ladder.height c.args.ladder.upward)) = rw (c.new-walk.ensures.0, c.new-walk.ensures.1, c.new.ensures.0, c.new.ensures.1) refl in
    tried c.args.k c.args.wanted _ _ c.forward-grant.result c.bring_back.result (at new.machine new.sum.value) (at gone.machine gone.sum.value) (at home.machine home.sum.value) c.probe-start.result.sum.value opened (c.probe-start.ensures ∙ c.new-walk.ensures.1) c.forward-grant.ensures c.bring_back.ensures (ap (λ (m : Ladder). rung m.height m.upward) (c.into_below.ensures ∙ ap (λ (m : Stride Ladder). m.below) c.into_machine.ensures))
