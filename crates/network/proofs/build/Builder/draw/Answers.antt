use Rattle.std.proofs.Common.{arith}
use Rattle.network.proofs.Building.{laid_all, layable_all, wirable_all, drawn_all}
use Rattle.network.proofs.build.Builder.draw.Goals as goal

pub wire-requires : goal.wire-requires
wire-requires c = (c.requires.0, wirable_all c.requires.1 c.deref-2.ensures.value (omega arith) (omega arith))

pub returns : goal.returns
returns c t d =
    let l = laid_all t _ _ _ _ c.lay_node.ensures (c.lay.ensures t (layable_all d c.deref.ensures.value (omega arith))) in
    drawn_all t _ _ _ _ _ _ d.typed l (c.wire.ensures t (wirable_all d c.deref-2.ensures.value (omega arith) (omega arith)))
