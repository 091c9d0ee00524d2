-- The run law, from a machine's laws.
use Rattle.std.proofs.Common.{◌≡◌, ℕ, ◌+◌, List, [], ◌∷◌, ℤ, pos, ◌-ℤ◌, neg_ℤ, nat_abs, None, refl, ap, subst, arith}
use lib.Signed.{le_z_yes}
use Rattle.std.proofs.lemmas.Int.{ints}
use Rattle.runs.specs.declared.calls.Call.{Call}
use Rattle.runs.specs.declared.calls.Call.TheVariants as call
use Rattle.runs.specs.declared.calls.Answer.{Answer}
use Rattle.runs.specs.declared.calls.Answer.TheVariants as answer
use Rattle.machine.specs.declared.headings.Heading.TheVariants.{Up, Down}
use Rattle.machine.specs.Steps.{Next, Laws}
use Rattle.machine.specs.Walks.{Place, place, opening, Grant, Asked, Brought, towards}
use Rattle.runs.specs.Readings.{Reads}
use Rattle.runs.specs.Runs.{Stands, latest, Does, goes_forward, goes_back, tells_sum, takes_probe, brings_back, keeps, brings_none, keeps_none, reads_of, Run, begun, called, ended, Answerable, Answered, RunLaw}
use Rattle.runs.proofs.Listing.{reads_once}
use Rattle.runs.proofs.Standing.{stands_here, stands_swap, stands_plus, stands_once}
use Rattle.machine.proofs.Going.{same_place, goes_once, asked_once, goes_some, asked_some}
use Rattle.runs.proofs.Moving.{Within, Moves, stays, goes_moves, asked_moves, brought_there}

module _ {S Q R : Type 0} {next : S → Next S} {turned : S → S} {reads : S → ℤ → Q → R → Type 0}
    (laws : Laws next turned) (once : (y : S) (s : ℤ) (q : Q) (t u : R) → reads y s q t → reads y s q u → t ≡ u) where
  does_moves : {p q : Place S} {ps qs : List ℤ} {c : Call Q} {a : Answer R} {f b : ℕ} → Does next turned reads p ps c a q qs f b → Moves next p q f b
  does_moves (goes_forward {p = p} {q = q} {k = k} {a = a} r) = asked_moves laws Up k p q a r
  does_moves (goes_back {p = p} {q = q} {k = k} {a = a} r) = asked_moves laws Down k p q a r
  does_moves (tells_sum {p = p}) = stays next p p refl
  does_moves (takes_probe {p = p}) = stays next p p refl
  does_moves (brings_back {p = p} {q = q} {s = s} {a = a} r) = goes_moves laws (towards p.sum s) (nat_abs (s -ℤ p.sum)) p q a r
  does_moves (keeps {p = p}) = stays next p p refl
  does_moves (brings_none {p = p}) = stays next p p refl
  does_moves (keeps_none {p = p}) = stays next p p refl
  does_moves (reads_of {p = p} r) = stays next p p refl

  -- the same call at one place, with one latest probe, has one answer
  does_once : {p p' q' : Place S} {ps qs ps' qs' : List ℤ} {c : Call Q} {a d : Answer R} {f b g l : ℕ} → latest ps ≡ latest qs → Does next turned reads p ps c a p' ps' f b → Does next turned reads p qs c d q' qs' g l → (a ≡ d) × (p' ≡ q')
  does_once e (goes_forward {p = p} {q = q} {k = k} {a = a} r) (goes_forward {q = z} {a = d} t) = let one = asked_once laws Up k p q z a d r t in (ap answer.Moved one.0, one.1)
  does_once e (goes_back {p = p} {q = q} {k = k} {a = a} r) (goes_back {q = z} {a = d} t) = let one = asked_once laws Down k p q z a d r t in (ap answer.Moved one.0, one.1)
  does_once e tells_sum tells_sum = (refl, refl)
  does_once e takes_probe takes_probe = (refl, refl)
  does_once e (brings_back {p = p} {q = q} {s = s} {a = a} r) (brings_back {q = z} {s = t} {a = d} u) =
      let same : t ≡ s = cc in
      let one = goes_once laws (towards p.sum s) (nat_abs (s -ℤ p.sum)) p q z a d r (subst (λ (w : ℤ). Brought next turned w p z d) same u) in
      (ap answer.Moved one.0, one.1)
  does_once e (brings_back r) brings_none = absurd (let z : ◌≡◌ {A = ℕ} 0 1 = cc in omega arith)
  does_once e brings_none (brings_back r) = absurd (let z : ◌≡◌ {A = ℕ} 0 1 = cc in omega arith)
  does_once e brings_none brings_none = (refl, refl)
  does_once e keeps keeps = (refl, refl)
  does_once e keeps keeps_none = absurd (let z : ◌≡◌ {A = ℕ} 0 1 = cc in omega arith)
  does_once e keeps_none keeps = absurd (let z : ◌≡◌ {A = ℕ} 0 1 = cc in omega arith)
  does_once e keeps_none keeps_none = (refl, refl)
  does_once e (reads_of {p = p} {q = q} {t = t} r) (reads_of {t = u} v) = (ap answer.Read (once p.state p.sum q t u r v), refl)

  -- each call has an answer
  does_some : (p : Place S) (ps : List ℤ) (c : Call Q) → Answerable next turned reads p c → Answered next turned reads p ps c
  does_some p ps (call.Forward k) t =
      let o = asked_some laws Up k p in
      record { gives = answer.Moved o.0; leads_to = o.1; probes = ps; did = record { forward = _; back = _; does = goes_forward o.2 } }
  does_some p ps (call.Back k) t =
      let o = asked_some laws Down k p in
      record { gives = answer.Moved o.0; leads_to = o.1; probes = ps; did = record { forward = _; back = _; does = goes_back o.2 } }
  does_some p ps call.Sum t = record { gives = answer.Sum p.sum; leads_to = p; probes = ps; did = record { forward = _; back = _; does = tells_sum } }
  does_some p ps call.Probe t = record { gives = answer.Probed; leads_to = p; probes = p.sum ∷ ps; did = record { forward = _; back = _; does = takes_probe } }
  does_some p [] call.BringBack t = record { gives = answer.NoProbe; leads_to = p; probes = []; did = record { forward = _; back = _; does = brings_none } }
  does_some p (s ∷ ps) call.BringBack t =
      let o = goes_some laws (towards p.sum s) (nat_abs (s -ℤ p.sum)) p in
      record { gives = answer.Moved o.0; leads_to = o.1; probes = ps; did = record { forward = _; back = _; does = brings_back o.2 } }
  does_some p [] call.Keep t = record { gives = answer.NoProbe; leads_to = p; probes = []; did = record { forward = _; back = _; does = keeps_none } }
  does_some p (s ∷ ps) call.Keep t = record { gives = answer.Kept; leads_to = p; probes = ps; did = record { forward = _; back = _; does = keeps } }
  does_some p ps (call.Read q) t = record { gives = answer.Read t.0; leads_to = p; probes = ps; did = record { forward = _; back = _; does = reads_of t.1 } }

  -- a sum at which a walk from x once stood
  record Known (x : S) (s : ℤ) : Type 0 where
    state : S
    stands : Stands next x s state
    within : Within s

  abbrev Known-all : S → List ℤ → Type 0
  Known-all x [] = Unit {0}
  Known-all x (s ∷ ps) = Known x s × Known-all x ps

  does_known : (x : S) {p q : Place S} {ps qs : List ℤ} {c : Call Q} {a : Answer R} {f b : ℕ} → Does next turned reads p ps c a q qs f b → Known x p.sum → Known-all x ps → Known-all x qs
  does_known x (goes_forward r) here all = all
  does_known x (goes_back r) here all = all
  does_known x tells_sum here all = all
  does_known x takes_probe here all = (here, all)
  does_known x (brings_back r) here all = all.1
  does_known x keeps here all = all.1
  does_known x brings_none here all = all
  does_known x keeps_none here all = all
  does_known x (reads_of r) here all = all

  record Since (x : S) (p : Place S) (ps : List ℤ) (f b : ℕ) : Type 0 where
    tally : p.sum ≡ pos f -ℤ pos b
    within : Within p.sum
    stands : Stands next x p.sum p.state
    probes : Known-all x ps

  since_more : (x : S) {p q : Place S} {ps qs : List ℤ} {c : Call Q} {a : Answer R} {f b g l : ℕ} → Since x p ps f b → Does next turned reads p ps c a q qs g l → Since x q qs (f + g) (b + l)
  since_more x {p} {q} {f = f} {b = b} {g = g} {l = l} s d =
      let m = does_moves d in
      record {
        tally = let e = s.tally in let t = m.tally in omega (arith, ints);
        within = m.within s.within;
        stands = m.stands x s.stands;
        probes = does_known x d (record { state = p.state; stands = s.stands; within = s.within }) s.probes;
      }

  run_since : (x : S) {h : List (Call Q × Answer R)} {p : Place S} {ps : List ℤ} {f b : ℕ} → Run next turned reads (opening x) h p ps f b → Since x p ps f b
  run_since x begun = record { tally = refl; within = (le_z_yes tt, le_z_yes tt); stands = stands_here next x (pos 0) refl; probes = tt }
  run_since x (called r d) = since_more x (run_since x r) d
  run_since x (ended r) = let s = run_since x r in record { tally = s.tally; within = s.within; stands = s.stands; probes = tt }

  at_place : {p q q' : Place S} {qs qs' : List ℤ} {c : Call Q} {d : Answer R} {g l : ℕ} → p ≡ q → Does next turned reads q qs c d q' qs' g l → Does next turned reads p qs c d q' qs' g l
  at_place e d = rw e d

  known_state : (x : S) (p q : Place S) → p.sum ≡ q.sum → Stands next x p.sum p.state → Stands next x q.sum q.state → p.state ≡ q.state
  known_state x p q e s t = stands_once laws p.sum x p.state q.state s (rw e t)

  -- bring-back to a known sum
  known_reached : (x : S) (p q : Place S) (s : ℤ) (a : Grant) → Stands next x p.sum p.state → (k : Known x s) → Brought next turned s p q a → (a ≡ (nat_abs (s -ℤ p.sum), None)) × (q ≡ place k.state s)
  known_reached x p q s a here k r =
      let way = stands_plus laws s {f = s -ℤ p.sum} (omega (arith, ints)) (stands_swap next {e = neg_ℤ p.sum} refl here) k.stands in
      goes_once laws (towards p.sum s) (nat_abs (s -ℤ p.sum)) p q (place k.state s) a (nat_abs (s -ℤ p.sum), None) r (brought_there laws p k.state s k.within way)

  brings_reached : (x : S) {p q : Place S} {s : ℤ} {ps qs : List ℤ} {a : Answer R} {f b : ℕ} → Stands next x p.sum p.state → Known x s → Does next turned reads p (s ∷ ps) call.BringBack a q qs f b → (q.sum ≡ s) × ((n : ℕ) × (a ≡ answer.Moved (n, None)))
  brings_reached x here k (brings_back {p = p} {q = q} {s = s} {a = a} r) =
      let there = known_reached x p q s a here k r in
      (ap (λ z. z.sum) there.1, (nat_abs (s -ℤ p.sum), ap answer.Moved there.0))

  pub run_law : RunLaw next turned reads
  run_law = record {
    counts = λ x r. (run_since x r).tally;
    stands = λ x r. (run_since x r).stands;
    one_state = λ x {p} {q} r t e. known_state x p q e (run_since x r).stands (run_since x t).stands;
    answers = does_some;
    one_answer = λ x {p} {q} r t e l d u.
        let same = same_place p q (known_state x p q e (run_since x r).stands (run_since x t).stands) e in
        does_once l d (at_place same u);
    returns = λ x {p} {q} z a r t b.
        let s = run_since x r in
        let there = known_reached x q z p.sum a (run_since x t).stands (record { state = p.state; stands = s.stands; within = s.within }) b in
        (ap (λ (d : Grant). d.1) there.0, there.1);
    arrives = λ x r d. let s = run_since x r in brings_reached x s.stands s.probes.0 d;
  }

-- at one state and sum a query has one reading, so the law holds of what is read of a machine
pub read_law : {M S Q R : Type 0} {next : S → Next S} {turned : S → S} {state : M → S} {reading : M → ℤ → Q → R} → Laws next turned → RunLaw next turned (Reads state reading)
read_law {state = state} {reading = reading} laws = run_law laws (reads_once state reading)

-- a probe taken at the opening is reached again, after any one call forward or back
pub home_again : {S : Type 0} {next : S → Next S} {turned : S → S} → Laws next turned → (x : S) (k : ℕ) (q z : Place S) (a d : Grant) → Asked Up next turned k (opening x) q a → Brought next turned (pos 0) q z d → (d.1 ≡ None) × (z ≡ opening x)
home_again {S} laws x k q z a d r b =
    (run_law {Q = Unit {0}} {R = Unit {0}} {reads = λ (y : S) (s : ℤ) (q : Unit {0}) (t : Unit {0}). Unit {0}} laws (λ y s q t u r v. refl)).returns x z d begun (called begun (goes_forward {k = k} {a = a} r)) b
