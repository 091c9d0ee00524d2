use Rattle.std.proofs.Common.{ℕ, ◌∷◌, Option, sym, ap, ◌∙◌, subst}
use Rattle.machine.specs.declared.reasons.Reason.{Reason}
use Rattle.machine.specs.Walks.{Place, place, Asked}
use Rattle.machine.specs.declared.headings.Heading.TheVariants.{Up}
use Rattle.token.specs.State.{State, turned}
use Rattle.token.specs.Next.{next}
use Rattle.token_machine.specs.declared.tokens.Token.{Token}
use Rattle.machine.specs.declared.walks.Walk.{Walk}
use Rattle.token_machine.specs.Tokens.{state_of}
use Rattle.lab.specs.declared.stages.Stage.{Stage}
use Rattle.lab.specs.Listings.{lines, line_at, rest_of}
use Rattle.lab.proofs.Advancing.{none_left, goes_on, ends_here}
use Rattle.lab.proofs.listing.Listing.advance.Goals as goal
use Rattle.lab.proofs.listing.Listing.advance.Goals.{in-None, in-Some}

abbrev at : Walk Token → Place State
at w = place (state_of w.machine) w.sum.value

pub returns-then-left-eq0 : goal.returns-then-left-eq0
returns-then-left-eq0 c = ap (λ (n : ℕ). lines n (at c.args.self.now.walk)) c.if-left-eq0.true ∙ none_left (at c.args.self.now.walk)

pub returns : goal.returns
returns c =
    let p = at c.args.self.now.walk in
    let q = at c.forward-why.new.self in
    let g = c.forward-why.result.0 in
    elim c.match-why.branch [
      | in-None w ↦
          goes_on c.args.left p q g c.if-left-eq0.false (subst (λ (o : Option Reason). Asked Up next turned 1 p q (g, o)) w.in-None.is c.forward-why.ensures)
          ∙ ap (λ (s : Stage). line_at p ∷ rest_of s q) (sym w.self-is)
      | in-Some w ↦
          ends_here c.args.left p q g w.in-Some.reason c.if-left-eq0.false (subst (λ (o : Option Reason). Asked Up next turned 1 p q (g, o)) w.in-Some.is c.forward-why.ensures)
          ∙ ap (λ (s : Stage). line_at p ∷ rest_of s q) (sym w.self-is)
    ]
