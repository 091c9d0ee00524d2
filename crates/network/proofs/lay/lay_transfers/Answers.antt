use Rattle.std.proofs.Common.{◌+◌, replicate, refl, ap, ◌∙◌, arith}
use lib.ListN.{length-replicate}
use Rattle.cells.specs.declared.kinds.Kind.TheVariants.{Transfer}
use Rattle.geometry.specs.Network.{Made}
use Rattle.network.proofs.Laid.{filled}
use Rattle.network.proofs.lay.lay_transfers.Goals as goal

pub returns : goal.returns
returns c =
    let m : Made = (Transfer, c.args.iterator) in
    let f = c.fill.ensures.after (λ y e. e) ∙ ap (replicate _) c.unlinked.ensures in
    record {
      written = filled m c.args.uses c.args.next.node (c.args.next.node + c.args.uses) c.args.cells.now c.fill.new.self refl (omega arith) f;
      node = omega (arith, length-replicate {A = Made} c.args.uses m);
      iterator = omega arith;
    }
