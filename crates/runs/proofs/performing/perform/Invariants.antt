use Rattle.std.proofs.Common.{◌≡◌, ◌≤◌, map, length, take, vec_items, vec_len, vec_capacity}
use Rattle.machine.specs.declared.walks.Probe.{Probe}
use Rattle.machine.specs.Standing.{stands}
use Rattle.runs.specs.Readings.{Reads, meant}
use Rattle.runs.specs.Runs.{Listed, paired, latest_first}
use Rattle.runs.proofs.performing.perform.Given as goal

abbrev pub invariant-loop-call : goal.invariant-loop-call
invariant-loop-call g l =
    let m = g.M.Machine in
    let r = g.M.Readable in
    (vec_len l.answers ≡ length l.yielded) × (length l.calls ≤ vec_capacity l.answers)
    × (vec_len l.probes ≤ length l.yielded) × (length l.calls ≤ vec_capacity l.probes)
    × Listed m.next m.turned (Reads m.state r.reading) (stands m.state l.initial.walk) (paired (take (length l.yielded) l.calls) (map (meant r.told) (vec_items l.answers))) (stands m.state l.walk) (latest_first (λ (p : Probe). p.sum.value) (vec_items l.probes))
