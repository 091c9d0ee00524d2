use Rattle.std.proofs.Common.{arith}
use Rattle.network.proofs.Building.{root_there, few_parts, whole_held}
use Rattle.network.proofs.build.Builder.check.Goals as goal

pub overflow_add-program : goal.overflow_add-program
overflow_add-program c =
    let v = c.in_ok-program.ensures in
    omega (arith, few_parts _ v.0 v.1 _ _ _ _ _ v.3)

pub plan-requires : goal.plan-requires
plan-requires c =
    let v = c.in_ok-program.ensures in
    record { there = omega (arith, root_there _ v.0 v.1 _ _ _ _ _ v.3); room = omega (arith, few_parts _ v.0 v.1 _ _ _ _ _ v.3, c.args.self.now.parts_fit) }

pub returns : goal.returns
returns c =
    let v = c.in_ok-program.ensures in
    (v.0, v.1, whole_held _ v.0 v.1 _ _ _ _ _ v.3 _ c.plan.ensures.planned c.plan.ensures.all)
