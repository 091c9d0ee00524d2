-- The order of refusals: the place is asked first, then the fault. Assumes nothing.
use Rattle.std.specs.Prelude.{◌≡◌, ◌==◌}
use Rattle.std.specs.Cmp.{IsTotalOrder, nat_cmp_total, on_total, then_total, both_tied, unsigned_ties}
use Rattle.std.specs.declared.cmp.Ordering.{Ordering}
use Rattle.std.specs.Ordering.{nat_cmp, on, then_cmp, eq_by_cmp}
use Rattle.std.proofs.Common.{◌∙◌}
use Rattle.std.proofs.Math.Bool.{and_comm}
use Rattle.syntax.specs.declared.refusal.Refusal.{Refusal}
use Rattle.syntax.specs.contracts.refusal.FaultPartialEq.TheImpl.{eq-value as same_fault}
use Rattle.syntax.specs.contracts.refusal.FaultOrd.TheImpl.{cmp-value as fault_cmp}
use Rattle.syntax.specs.contracts.refusal.FaultOrd.TheImpl.Laws.{total-law, matches_eq-law}
use Rattle.syntax.specs.contracts.refusal.RefusalPartialEq.TheImpl.{eq-value as same_refusal}

abbrev pub refusal_cmp : Refusal → Refusal → Ordering
refusal_cmp = then_cmp (on (λ f. f.place) nat_cmp) (on (λ f. f.fault) fault_cmp.it)

pub refusal_total : IsTotalOrder refusal_cmp
refusal_total = then_total (on_total (λ f. f.place) nat_cmp_total) (on_total (λ f. f.fault) total-law)

pub refusal_ties : (f g : Refusal) → same_refusal.it f g ≡ eq_by_cmp refusal_cmp f g
refusal_ties f g = and_comm (same_fault.it f.fault g.fault) (f.place == g.place) ∙ both_tied _ _ _ _ (unsigned_ties f.place g.place) (matches_eq-law f.fault g.fault)
