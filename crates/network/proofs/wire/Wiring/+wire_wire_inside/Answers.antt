use Rattle.std.proofs.Common.{◌+◌, ◌*◌, ◌<◌, arith}
use Rattle.network.proofs.Wired.{joinable, wirable_as, own_as, wired_as, in_succ, in_lam, in_app₁, in_app₂, in_pair₁, in_pair₂, in_split₁, in_split₂, in_iter₁, in_step, in_base, inside, passed_by, wired_variable, wired-number, wired_succ, wired_lam, wired_app, wired_pair, wired_split, wired_iter}
use Rattle.network.proofs.wire.Wiring.+wire_wire_inside.Goals as goal

pub wire-join_own-requires : goal.wire-join_own-requires
wire-join_own-requires n c =
    joinable c.args.parts.now c.args.i c.requires.0 c.part_at-shape.result c.part_at-shape.ensures c.requires.1

pub wire-wire-requires : goal.wire-wire-requires
wire-wire-requires n c =
    let v = wirable_as c.part_at-shape.ensures c.requires.1 _ c.in-Successor.is in
    (omega (arith, v.2), (v.0, in_succ v.4 v.3 c.at.ensures (omega arith)))

pub wire-wire-next-requires : goal.wire-wire-next-requires
wire-wire-next-requires n c =
    let v = wirable_as c.part_at-shape.ensures c.requires.1 _ c.in-Function.is in
    (omega (arith, v.3), (v.1, in_lam v.5 v.4 c.at-in-Function.ensures c.rebind-outer.ensures.after c.at-in-Function-2.ensures (omega arith)))

pub wire-wire-next-requires-in-Application : goal.wire-wire-next-requires-in-Application
wire-wire-next-requires-in-Application n c =
    let v = wirable_as c.part_at-shape.ensures c.requires.1 _ c.in-Application.is in
    (omega (arith, v.3), (v.0, in_app₁ v.7 v.5 c.at-in-Application.ensures (omega arith)))

pub wire-wire-requires-in-Application : goal.wire-wire-requires-in-Application
wire-wire-requires-in-Application n c =
    let v = wirable_as c.part_at-shape.ensures c.requires.1 _ c.in-Application.is in
    let x = c.wire-next-in-Application.ensures v.0 (in_app₁ v.7 v.5 c.at-in-Application.ensures (omega arith)) in
    (omega (arith, v.4), (v.1, in_app₂ v.7 v.6 x c.at-in-Application-2.ensures (omega arith)))

pub wire-wire-next-requires-in-Pair : goal.wire-wire-next-requires-in-Pair
wire-wire-next-requires-in-Pair n c =
    let v = wirable_as c.part_at-shape.ensures c.requires.1 _ c.in-Pair.is in
    (omega (arith, v.3), (v.0, in_pair₁ v.7 v.5 c.at-in-Pair.ensures (omega arith)))

pub wire-wire-requires-in-Pair : goal.wire-wire-requires-in-Pair
wire-wire-requires-in-Pair n c =
    let v = wirable_as c.part_at-shape.ensures c.requires.1 _ c.in-Pair.is in
    let x = c.wire-next-in-Pair.ensures v.0 (in_pair₁ v.7 v.5 c.at-in-Pair.ensures (omega arith)) in
    (omega (arith, v.4), (v.1, in_pair₂ v.7 v.6 x c.at-in-Pair-2.ensures (omega arith)))

pub wire-wire-next-requires-in-Let : goal.wire-wire-next-requires-in-Let
wire-wire-next-requires-in-Let n c =
    let v = wirable_as c.part_at-shape.ensures c.requires.1 _ c.in-Let.is in
    (omega (arith, v.3), (v.0, in_split₁ v.7 v.5 c.at-in-Let.ensures (omega arith)))

pub wire-wire-next-requires-in-Let-2 : goal.wire-wire-next-requires-in-Let-2
wire-wire-next-requires-in-Let-2 n c =
    let v = wirable_as c.part_at-shape.ensures c.requires.1 _ c.in-Let.is in
    let x = c.wire-next-in-Let.ensures v.0 (in_split₁ v.7 v.5 c.at-in-Let.ensures (omega arith)) in
    (omega (arith, v.4), (v.1, in_split₂ v.7 v.6 x c.at-in-Let-2.ensures c.rebind-outer-in-Let.ensures.after c.at-in-Let-3.ensures c.rebind-other.ensures.after (omega arith)))

pub wire-rebind-requires-in-Let : goal.wire-rebind-requires-in-Let
wire-rebind-requires-in-Let n c =
    let v = wirable_as c.part_at-shape.ensures c.requires.1 _ c.in-Let.is in
    omega (arith, v.7.ready.below)

pub wire-rebind-requires-in-Let-2 : goal.wire-rebind-requires-in-Let-2
wire-rebind-requires-in-Let-2 n c =
    let v = wirable_as c.part_at-shape.ensures c.requires.1 _ c.in-Let.is in
    omega (arith, v.7.ready.below)

pub wire-wire-next-requires-in-Iterator : goal.wire-wire-next-requires-in-Iterator
wire-wire-next-requires-in-Iterator n c =
    let v = wirable_as c.part_at-shape.ensures c.requires.1 _ c.in-Iterator.is in
    (omega (arith, v.4), (v.0, in_iter₁ v.10 v.7 c.at-in-Iterator.ensures (omega arith)))

pub wire-wire_inside-next-requires : goal.wire-wire_inside-next-requires
wire-wire_inside-next-requires n c =
    let v = wirable_as c.part_at-shape.ensures c.requires.1 _ c.in-Iterator.is in
    let x = c.wire-next-in-Iterator.ensures v.0 (in_iter₁ v.10 v.7 c.at-in-Iterator.ensures (omega arith)) in
    let m : 2 * c.in-Iterator.step + 1 < n = omega (arith, v.5) in
    (m, (v.1, in_step v.10 v.8 x c.at-in-Iterator-2.ensures (omega arith)))

pub wire-wire_inside-requires : goal.wire-wire_inside-requires
wire-wire_inside-requires n c =
    let v = wirable_as c.part_at-shape.ensures c.requires.1 _ c.in-Iterator.is in
    let x = c.wire-next-in-Iterator.ensures v.0 (in_iter₁ v.10 v.7 c.at-in-Iterator.ensures (omega arith)) in
    let y = c.wire_inside-next.ensures v.1 (in_step v.10 v.8 x c.at-in-Iterator-2.ensures (omega arith)) in
    let m : 2 * c.in-Iterator.base + 1 < n = omega (arith, v.6) in
    (m, (v.2, in_base v.10 v.9 x y c.at-in-Iterator-3.ensures (omega arith)))

pub wire-returns-in-Variable : goal.wire-returns-in-Variable
wire-returns-in-Variable n c t h =
    let v = wirable_as c.part_at-shape.ensures h _ c.in-Variable.is in
    let own = own_as c.args.k c.args.root c.args.self.now.starts.items c.args.cells.now c.in-Variable.is c.join_own.ensures in
    wired_as v (wired_variable own)

pub wire-returns-in-Number : goal.wire-returns-in-Number
wire-returns-in-Number n c t h =
    let v = wirable_as c.part_at-shape.ensures h _ c.in-Number.is in
    let own = own_as c.args.k c.args.root c.args.self.now.starts.items c.args.cells.now c.in-Number.is c.join_own.ensures in
    wired_as v (wired-number own)

pub wire-returns-in-Successor : goal.wire-returns-in-Successor
wire-returns-in-Successor n c t h =
    let v = wirable_as c.part_at-shape.ensures h _ c.in-Successor.is in
    let own = own_as c.args.k c.args.root c.args.self.now.starts.items c.args.cells.now c.in-Successor.is c.join_own.ensures in
    let x = c.wire.ensures v.0 (in_succ v.4 v.3 c.at.ensures (omega arith)) in
    wired_as v.1 (wired_succ v.4 own c.at.ensures x)

pub wire-returns-in-Function : goal.wire-returns-in-Function
wire-returns-in-Function n c t h =
    let v = wirable_as c.part_at-shape.ensures h _ c.in-Function.is in
    let own = own_as c.args.k c.args.root c.args.self.now.starts.items c.args.cells.now c.in-Function.is c.join_own.ensures in
    let x = c.wire-next.ensures v.1 (in_lam v.5 v.4 c.at-in-Function.ensures c.rebind-outer.ensures.after c.at-in-Function-2.ensures (omega arith)) in
    wired_as v.2 (wired_lam v.5 own c.at-in-Function.ensures c.rebind-outer.ensures.before c.rebind-outer.ensures.after c.at-in-Function-2.ensures x c.rebind.ensures.after)

pub wire-returns-in-Application : goal.wire-returns-in-Application
wire-returns-in-Application n c t h =
    let v = wirable_as c.part_at-shape.ensures h _ c.in-Application.is in
    let own = own_as c.args.k c.args.root c.args.self.now.starts.items c.args.cells.now c.in-Application.is c.join_own.ensures in
    let x = c.wire-next-in-Application.ensures v.0 (in_app₁ v.7 v.5 c.at-in-Application.ensures (omega arith)) in
    let y = c.wire-in-Application.ensures v.1 (in_app₂ v.7 v.6 x c.at-in-Application-2.ensures (omega arith)) in
    wired_as v.2 (wired_app v.7 own c.at-in-Application.ensures x c.at-in-Application-2.ensures y)

pub wire-returns-in-Pair : goal.wire-returns-in-Pair
wire-returns-in-Pair n c t h =
    let v = wirable_as c.part_at-shape.ensures h _ c.in-Pair.is in
    let own = own_as c.args.k c.args.root c.args.self.now.starts.items c.args.cells.now c.in-Pair.is c.join_own.ensures in
    let x = c.wire-next-in-Pair.ensures v.0 (in_pair₁ v.7 v.5 c.at-in-Pair.ensures (omega arith)) in
    let y = c.wire-in-Pair.ensures v.1 (in_pair₂ v.7 v.6 x c.at-in-Pair-2.ensures (omega arith)) in
    wired_as v.2 (wired_pair v.7 own c.at-in-Pair.ensures x c.at-in-Pair-2.ensures y)

pub wire-returns-in-Let : goal.wire-returns-in-Let
wire-returns-in-Let n c t h =
    let v = wirable_as c.part_at-shape.ensures h _ c.in-Let.is in
    let own = own_as c.args.k c.args.root c.args.self.now.starts.items c.args.cells.now c.in-Let.is c.join_own.ensures in
    let x = c.wire-next-in-Let.ensures v.0 (in_split₁ v.7 v.5 c.at-in-Let.ensures (omega arith)) in
    let y = c.wire-next-in-Let-2.ensures v.1 (in_split₂ v.7 v.6 x c.at-in-Let-2.ensures c.rebind-outer-in-Let.ensures.after c.at-in-Let-3.ensures c.rebind-other.ensures.after (omega arith)) in
    wired_as v.2 (wired_split v.7 own c.at-in-Let.ensures x c.at-in-Let-2.ensures c.rebind-outer-in-Let.ensures.before c.rebind-outer-in-Let.ensures.after c.at-in-Let-3.ensures c.rebind-other.ensures.before c.rebind-other.ensures.after y c.rebind-in-Let.ensures.after c.rebind-in-Let-2.ensures.after)

pub wire-returns-in-Iterator : goal.wire-returns-in-Iterator
wire-returns-in-Iterator n c t h =
    let v = wirable_as c.part_at-shape.ensures h _ c.in-Iterator.is in
    let own = own_as c.args.k c.args.root c.args.self.now.starts.items c.args.cells.now c.in-Iterator.is c.join_own.ensures in
    let x = c.wire-next-in-Iterator.ensures v.0 (in_iter₁ v.10 v.7 c.at-in-Iterator.ensures (omega arith)) in
    let y = c.wire_inside-next.ensures v.1 (in_step v.10 v.8 x c.at-in-Iterator-2.ensures (omega arith)) in
    let z = c.wire_inside.ensures v.2 (in_base v.10 v.9 x y c.at-in-Iterator-3.ensures (omega arith)) in
    wired_as v.3 (wired_iter v.10 own c.at-in-Iterator.ensures x c.at-in-Iterator-2.ensures y c.at-in-Iterator-3.ensures z)

pub wire_inside-wire-requires : goal.wire_inside-wire-requires
wire_inside-wire-requires n c =
    let h = c.requires.1 in
    let x = c.pass-next.ensures c.requires.0 h.passable in
    (omega arith, (c.requires.0, inside h.passable x.1 (omega arith) h.rooted))

pub wire_inside-returns : goal.wire_inside-returns
wire_inside-returns n c t h =
    let x = c.pass-next.ensures t h.passable in
    passed_by x.0 x.1 (c.wire.ensures t (inside h.passable x.1 (omega arith) h.rooted))
