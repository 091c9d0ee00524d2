use Rattle.std.proofs.Common.{ℤ, vec_items, sym, refl, ap, ◌∙◌, arith, rules}
use Rattle.std.proofs.lemmas.Int.{ints}
use Rattle.machine.specs.declared.walks.Probe.{Probe}
use Rattle.runs.proofs.Answering.{did_forward, did_back, did_sum, did_probe, did_bring, did_bring_none, did_keep, did_keep_none, did_read}
use Rattle.runs.proofs.performing.perform_one.Goals as goal

abbrev sum_of : Probe → ℤ
sum_of p = p.sum.value

pub returns-in-Forward-clause-did : goal.returns-in-Forward-clause-did
returns-in-Forward-clause-did g c = did_forward c.in-Forward.is c.forward.ensures

pub returns-in-Back-clause-did : goal.returns-in-Back-clause-did
returns-in-Back-clause-did g c = did_back c.in-Back.is c.back.ensures

pub returns-in-Sum-clause-did : goal.returns-in-Sum-clause-did
returns-in-Sum-clause-did g c = did_sum c.in-Sum.is (search rules)

pub returns-in-Probe-clause-did : goal.returns-in-Probe-clause-did
returns-in-Probe-clause-did g c = did_probe sum_of (vec_items c.args.probes.now) (vec_items c.push_reserved.new.self) c.probe.result c.in-Probe.is c.probe.ensures c.push_reserved.ensures.items

pub returns-in-Some-clause-did : goal.returns-in-Some-clause-did
returns-in-Some-clause-did g c = did_bring sum_of (vec_items c.args.probes.now) (vec_items c.pop.new.self) c.in-Some.probe c.in-BringBack.is c.in-Some.ensures.items c.bring_back.ensures

pub returns-in-BringBack-clause-did : goal.returns-in-BringBack-clause-did
returns-in-BringBack-clause-did g c =
    let e = c.in-None.ensures in
    let xs = c.args.probes.now in
    let ys = c.pop.new.self in
    did_bring_none sum_of (vec_items xs) (vec_items ys) c.in-BringBack.is (omega (arith, xs.ok.0, e.cases.0)) (omega (arith, ys.ok.0, e.cases.1))

pub returns-in-Some-pop-clause-did : goal.returns-in-Some-pop-clause-did
returns-in-Some-pop-clause-did g c = did_keep sum_of (vec_items c.args.probes.now) (vec_items c.pop-in-Keep.new.self) c.in-Some-pop.probe c.in-Keep.is c.in-Some-pop.ensures.items

pub returns-in-Keep-clause-did : goal.returns-in-Keep-clause-did
returns-in-Keep-clause-did g c =
    let e = c.in-None-pop.ensures in
    let xs = c.args.probes.now in
    let ys = c.pop-in-Keep.new.self in
    did_keep_none sum_of (vec_items xs) (vec_items ys) c.in-Keep.is (omega (arith, xs.ok.0, e.cases.0)) (omega (arith, ys.ok.0, e.cases.1))

pub returns-in-Some-room-clause-did : goal.returns-in-Some-room-clause-did
returns-in-Some-room-clause-did g c =
    let is = c.sum-in-Some-room.ensures in
    did_read c.in-Read.is (record {
      someone = c.args.walk.now.machine;
      stands = refl;
      alike = λ m e.
          c.reply.ensures m (e ∙ ap g.M.Machine.state (sym c.machine.ensures))
          ∙ ap (λ s. g.M.Readable.reading m s c.in-Read.query) (omega (arith, ints));
    })
