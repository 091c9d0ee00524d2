use Rattle.std.proofs.Common.{arith}
use Rattle.network.proofs.Laid.{own_among, none, one_successor, one_function, two, three}
use Rattle.network.proofs.lay.+lay.Goals as goal

pub lay_own-own-requires : goal.lay_own-own-requires
lay_own-own-requires n c =
    let o = own_among c.args.parts.now c.args.i c.requires.0 c.part_at-shape.result c.part_at-shape.ensures c.requires.1.holds in
    record { room = omega (arith, o, c.requires.1.room); few = omega (arith, o, c.requires.1.few) }

pub lay-requires : goal.lay-requires
lay-requires n c =
    let o = one_successor c.part_at-shape.ensures c.requires.1 _ c.in-Successor.is in
    (omega (arith, o.less), (o.a, o.part c.lay_own-own.ensures (omega arith)))

pub lay-requires-in-Function : goal.lay-requires-in-Function
lay-requires-in-Function n c =
    let o = one_function c.part_at-shape.ensures c.requires.1 _ _ _ c.in-Function.is in
    (omega (arith, o.less), (o.a, o.part c.lay_own-own.ensures (omega arith)))

pub lay-after-requires : goal.lay-after-requires
lay-after-requires n c =
    let o = two c.part_at-shape.ensures c.requires.1 _ _ c.in-Application.is in
    (omega (arith, o.less), (o.a, o.left c.lay_own-own.ensures (omega arith)))

pub lay-requires-in-Application : goal.lay-requires-in-Application
lay-requires-in-Application n c =
    let o = two c.part_at-shape.ensures c.requires.1 _ _ c.in-Application.is in
    let own = c.lay_own-own.ensures in
    let x = c.lay-after.ensures o.a (o.left own (omega arith)) in
    (omega (arith, o.less), (o.b, o.right own x (omega arith)))

pub lay-counted-requires : goal.lay-counted-requires
lay-counted-requires n c =
    let o = three c.part_at-shape.ensures c.requires.1 _ _ _ c.in-Iterator.is in
    (omega (arith, o.less), (o.a, o.count c.lay_own-own.ensures (omega arith)))

pub lay-stepped-requires : goal.lay-stepped-requires
lay-stepped-requires n c =
    let o = three c.part_at-shape.ensures c.requires.1 _ _ _ c.in-Iterator.is in
    let own = c.lay_own-own.ensures in
    let x = c.lay-counted.ensures o.a (o.count own (omega arith)) in
    (omega (arith, o.less), (o.b, o.step own x (omega arith)))

pub lay_transfers-passed-requires : goal.lay_transfers-passed-requires
lay_transfers-passed-requires n c =
    let o = three c.part_at-shape.ensures c.requires.1 _ _ _ c.in-Iterator.is in
    let own = c.lay_own-own.ensures in
    let x = c.lay-counted.ensures o.a (o.count own (omega arith)) in
    let y = c.lay-stepped.ensures o.b (o.step own x (omega arith)) in
    omega (arith, o.uses c.part_at.ensures, o.step_room own x y, y.node)

pub lay-based-requires : goal.lay-based-requires
lay-based-requires n c =
    let o = three c.part_at-shape.ensures c.requires.1 _ _ _ c.in-Iterator.is in
    let own = c.lay_own-own.ensures in
    let x = c.lay-counted.ensures o.a (o.count own (omega arith)) in
    let y = c.lay-stepped.ensures o.b (o.step own x (omega arith)) in
    (omega (arith, o.less), (o.c, o.base own x y (o.uses c.part_at.ensures) c.lay_transfers-passed.ensures (omega (arith, y.node), omega (arith, y.iterator)) (omega arith)))

pub lay_transfers-requires : goal.lay_transfers-requires
lay_transfers-requires n c =
    let o = three c.part_at-shape.ensures c.requires.1 _ _ _ c.in-Iterator.is in
    let own = c.lay_own-own.ensures in
    let v = c.lay_transfers-passed.ensures in
    let u = o.uses c.part_at.ensures in
    let x = c.lay-counted.ensures o.a (o.count own (omega arith)) in
    let y = c.lay-stepped.ensures o.b (o.step own x (omega arith)) in
    let z = c.lay-based.ensures o.c (o.base own x y u v (omega (arith, y.node), omega (arith, y.iterator)) (omega arith)) in
    omega (arith, o.uses' c.part_at-in-Iterator.ensures, o.base_room own x y u v (omega (arith, y.node)) z)

pub returns-in-Variable : goal.returns-in-Variable
returns-in-Variable n c t g = none c.part_at-shape.ensures g c.in-Variable.is c.lay_own-own.ensures

pub returns-in-Successor : goal.returns-in-Successor
returns-in-Successor n c t g =
    let o = one_successor c.part_at-shape.ensures g _ c.in-Successor.is in
    let own = c.lay_own-own.ensures in
    o.whole own (c.lay.ensures o.a (o.part own (omega arith)))

pub returns-in-Function : goal.returns-in-Function
returns-in-Function n c t g =
    let o = one_function c.part_at-shape.ensures g _ _ _ c.in-Function.is in
    let own = c.lay_own-own.ensures in
    o.whole own (c.lay-in-Function.ensures o.a (o.part own (omega arith)))

pub returns-in-Application : goal.returns-in-Application
returns-in-Application n c t g =
    let o = two c.part_at-shape.ensures g _ _ c.in-Application.is in
    let own = c.lay_own-own.ensures in
    let x = c.lay-after.ensures o.a (o.left own (omega arith)) in
    o.whole own x (c.lay-in-Application.ensures o.b (o.right own x (omega arith)))

pub returns-in-Iterator : goal.returns-in-Iterator
returns-in-Iterator n c t g =
    let o = three c.part_at-shape.ensures g _ _ _ c.in-Iterator.is in
    let own = c.lay_own-own.ensures in
    let v = c.lay_transfers-passed.ensures in
    let u = o.uses c.part_at.ensures in
    let x = c.lay-counted.ensures o.a (o.count own (omega arith)) in
    let y = c.lay-stepped.ensures o.b (o.step own x (omega arith)) in
    let z = c.lay-based.ensures o.c (o.base own x y u v (omega (arith, y.node), omega (arith, y.iterator)) (omega arith)) in
    o.whole own x y u v z (o.uses' c.part_at-in-Iterator.ensures) c.lay_transfers.ensures
