use Rattle.std.proofs.Common.{◌≡◌, take, vec_items, vec_len}
use Rattle.runs.specs.Readings.{AllReady}
use Rattle.runs.proofs.performing.rooms_for.Given as goal

abbrev pub invariant-loop-call : goal.invariant-loop-call
invariant-loop-call g l = (vec_len l.rooms ≡ l.call-index) × AllReady g.M.Readable.fits (take l.call-index l.calls) (vec_items l.rooms)
