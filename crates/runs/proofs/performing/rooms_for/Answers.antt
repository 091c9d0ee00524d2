use Rattle.std.proofs.Common.{vec_items, arith}
use Rattle.runs.proofs.Listing.{rooms_more}
use Rattle.runs.proofs.performing.rooms_for.Goals as goal

pub loop-call-preserved : goal.loop-call-preserved
loop-call-preserved g c =
    let pushed = c.in_ok-push.ensures in (
      omega (arith, pushed.len, c.loop-call.invariant.0),
      rooms_more g.M.Readable.fits c.args.calls.now c.loop-call.call-index c.call-item.result (vec_items c.loop-call.rooms) (vec_items c.push.new.self) c.in_ok-room_for.field-0 c.loop-call-test.true c.call-item.is pushed.items c.loop-call.invariant.1 c.in_ok-room_for.ensures,
    )
