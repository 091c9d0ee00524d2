use Rattle.std.proofs.Common.{◌≡◌, length, vec_items, vec_capacity}
use Rattle.network.specs.Plan.{Planned}
use Rattle.network.proofs.plan.plan.Given as goal

abbrev pub invariant-loop-subterm : goal.invariant-loop-subterm
invariant-loop-subterm l =
    record {
      planned : Planned l.subs (vec_items l.parts);
      counted : length (vec_items l.parts) ≡ l.subterm-index;
      room : vec_capacity l.parts ≡ vec_capacity l.initial.parts;
    }
