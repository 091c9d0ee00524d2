use Rattle.std.proofs.Common.{◌≡◌, length, vec_items, ◌∙◌, ap, arith}
use Rattle.std.proofs.lemmas.Iterator.{YieldsList-from_slice, YieldsList-from_zip}
use Rattle.std.proofs.lemmas.Iterator.Adapters.{YieldsList-from_vec}
use Rattle.std.proofs.lemmas.Iterator.Consumers.{YieldsList-turn, YieldsList-end}
use Rattle.std.proofs.lemmas.List.{length_push}
use Rattle.machine.specs.declared.walks.Probe.{Probe}
use Rattle.runs.specs.Readings.{meant}
use Rattle.runs.proofs.Whole.{read_law}
use Rattle.runs.proofs.Listing.{turn_ready, turns_all, listed-begun, listed_more, all_performed}
use Rattle.runs.proofs.performing.perform.Goals as goal

pub returns-in_err-rooms-clause-law : goal.returns-in_err-rooms-clause-law
returns-in_err-rooms-clause-law g c = read_law g.M.Machine.lawful

pub returns-in_err-answers-clause-law : goal.returns-in_err-answers-clause-law
returns-in_err-answers-clause-law g c = read_law g.M.Machine.lawful

pub returns-in_err-probes-clause-law : goal.returns-in_err-probes-clause-law
returns-in_err-probes-clause-law g c = read_law g.M.Machine.lawful

pub returns-clause-law : goal.returns-clause-law
returns-clause-law g c = read_law g.M.Machine.lawful

pub loop-call-init : goal.loop-call-init
loop-call-init g c =
    let answers = c.in_ok-answers.ensures in
    let probes = c.in_ok-probes.ensures in
    (answers.len, answers.capacity, omega (arith, probes.len), probes.capacity, listed-begun (λ (p : Probe). p.sum.value) (vec_items c.in_ok-probes.probes) probes.items)

pub perform_one-answer-requires-clause-ready : goal.perform_one-answer-requires-clause-ready
perform_one-answer-requires-clause-ready g c =
    let rooms = vec_items c.in_ok-rooms.rooms in
    let calls = c.args.calls.now in
    let turn = YieldsList-turn (YieldsList-from_zip (YieldsList-from_slice calls cc) (YieldsList-from_vec rooms (cc) (ap (λ z. z.b.rest.len) c.into_iter-call-iterator.ensures.into_iter_gives ∙ c.zip-call-items.ensures.second.1 ∙ c.in_ok-rooms.rooms.ok.0))) c.loop-call.yielded c.loop-call.call-iterator c.loop-call.yielded_by _ c.next.new.self _ c.in-Some.is c.next.ensures.steps in
    (turn_ready g.M.Readable.fits calls rooms (length c.loop-call.yielded) c.in-Some.call.now c.in-Some.room c.in_ok-rooms.ensures.1 turn).2

pub loop-call-preserved : goal.loop-call-preserved
loop-call-preserved g c =
    let rooms = vec_items c.in_ok-rooms.rooms in
    let calls = c.args.calls.now in
    let inv = c.loop-call.invariant in
    let answers = c.loop-call.answers in
    let turn = YieldsList-turn (YieldsList-from_zip (YieldsList-from_slice calls cc) (YieldsList-from_vec rooms (cc) (ap (λ z. z.b.rest.len) c.into_iter-call-iterator.ensures.into_iter_gives ∙ c.zip-call-items.ensures.second.1 ∙ c.in_ok-rooms.rooms.ok.0))) c.loop-call.yielded c.loop-call.call-iterator c.loop-call.yielded_by _ c.next.new.self _ c.in-Some.is c.next.ensures.steps in
    let met = turn_ready g.M.Readable.fits calls rooms (length c.loop-call.yielded) c.in-Some.call.now c.in-Some.room c.in_ok-rooms.ensures.1 turn in
    let more = length_push c.loop-call.yielded (c.in-Some.call, c.in-Some.room) in (
      omega (arith, c.push_reserved.ensures.len, inv.0, more),
      omega (arith, c.push_reserved.ensures.capacity, inv.1),
      omega (arith, c.perform_one-answer.ensures.space.0, inv.2, more),
      omega (arith, c.perform_one-answer.ensures.space.1, inv.3),
      rw more (listed_more (meant g.M.Readable.told) calls (length c.loop-call.yielded) c.in-Some.call.now (vec_items answers) (vec_items c.push_reserved.new.self) c.perform_one-answer.result met.0 met.1 (omega (arith, answers.ok.0, inv.0)) c.push_reserved.ensures.items inv.4 c.perform_one-answer.ensures.did),
    )

pub returns-clause-performed : goal.returns-clause-performed
returns-clause-performed g c =
    let rooms = vec_items c.in_ok-rooms.rooms in
    let calls = c.args.calls.now in
    let answers = c.loop-call.answers in
    let end = YieldsList-end (YieldsList-from_zip (YieldsList-from_slice calls cc) (YieldsList-from_vec rooms (cc) (ap (λ z. z.b.rest.len) c.into_iter-call-iterator.ensures.into_iter_gives ∙ c.zip-call-items.ensures.second.1 ∙ c.in_ok-rooms.rooms.ok.0))) c.loop-call.yielded c.loop-call.call-iterator c.loop-call.yielded_by _ c.next.new.self c.in-None.is c.next.ensures.steps in
    let all : length c.loop-call.yielded ≡ length calls = end.1 ∙ turns_all g.M.Readable.fits calls rooms c.in_ok-rooms.ensures.1 in
    all_performed (meant g.M.Readable.told) calls (length c.loop-call.yielded) (vec_items answers) (omega (arith, all)) (omega (arith, answers.ok.0, c.loop-call.invariant.0, all)) c.loop-call.invariant.4
