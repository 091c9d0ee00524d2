-- Whole runs of a walk: any calls, in any order and however often, over any machine and any readings.
use Rattle.std.specs.Prelude.{◌≡◌, ℕ, ◌+◌, List, [], ◌∷◌, ◌++◌, map, reverse, length, ℤ, pos, ◌-ℤ◌, neg_ℤ, Some, None, Option}
use Rattle.runs.specs.declared.calls.Call.{Call}
use Rattle.runs.specs.declared.calls.Call.TheVariants as call
use Rattle.runs.specs.declared.calls.Answer.{Answer}
use Rattle.runs.specs.declared.calls.Answer.TheVariants as answer
use Rattle.machine.specs.declared.headings.Heading.{Heading}
use Rattle.machine.specs.declared.headings.Heading.TheVariants.{Up, Down}
use Rattle.machine.specs.Steps.{Next, to, go}
use Rattle.machine.specs.Walks.{Place, opening, Grant, Asked, Brought, towards}

-- y stands d next states after x, or before it where d is negative
pub record Stands {S : Type 0} (next : S → Next S) (x : S) (d : ℤ) (y : S) : Type 0 where
  pub ahead : (n : ℕ) → d ≡ pos n → go next n x ≡ to y
  pub behind : (n : ℕ) → d ≡ neg_ℤ (pos n) → go next n y ≡ to x

-- of g steps granted, those forward and those back
abbrev pub forth : Heading → ℕ → ℕ
forth Up g = g
forth Down g = 0

abbrev pub back : Heading → ℕ → ℕ
back Up g = 0
back Down g = g

-- the sum of the latest open probe; the latest stands first
abbrev pub latest : List ℤ → Option ℤ
latest [] = None
latest (s ∷ ps) = Some s

-- the sums of the probes of a stack, the latest first
abbrev pub latest_first : {P : Type 0} → (P → ℤ) → List P → List ℤ
latest_first sum ps = reverse (map sum ps)

-- calls with their answers
abbrev pub History : Type 0 → Type 0 → Type 0
History Q R = List (Call Q × Answer R)

abbrev pub paired : {X Y : Type 0} → List X → List Y → List (X × Y)
paired [] ds = []
paired (c ∷ cs) [] = []
paired (c ∷ cs) (d ∷ ds) = (c, d) ∷ paired cs ds

-- A walk over a machine, with its readings.
module _ {S Q R : Type 0} (next : S → Next S) (turned : S → S) (reads : S → ℤ → Q → R → Type 0) where
  -- one call at p with the probes ps open: its answer, the place and the open probes after it,
  -- and the steps that it granted forward and back
  pub data Does : Place S → List ℤ → Call Q → Answer R → Place S → List ℤ → ℕ → ℕ → Type 0 where
    goes_forward : {p q : Place S} {ps : List ℤ} {k : ℕ} {a : Grant} → Asked Up next turned k p q a → Does p ps (call.Forward k) (answer.Moved a) q ps a.0 0
    goes_back : {p q : Place S} {ps : List ℤ} {k : ℕ} {a : Grant} → Asked Down next turned k p q a → Does p ps (call.Back k) (answer.Moved a) q ps 0 a.0
    tells_sum : {p : Place S} {ps : List ℤ} → Does p ps call.Sum (answer.Sum p.sum) p ps 0 0
    takes_probe : {p : Place S} {ps : List ℤ} → Does p ps call.Probe answer.Probed p (p.sum ∷ ps) 0 0
    brings_back : {p q : Place S} {ps : List ℤ} {s : ℤ} {a : Grant} → Brought next turned s p q a → Does p (s ∷ ps) call.BringBack (answer.Moved a) q ps (forth (towards p.sum s) a.0) (back (towards p.sum s) a.0)
    keeps : {p : Place S} {ps : List ℤ} {s : ℤ} → Does p (s ∷ ps) call.Keep answer.Kept p ps 0 0
    brings_none : {p : Place S} → Does p [] call.BringBack answer.NoProbe p [] 0 0
    keeps_none : {p : Place S} → Does p [] call.Keep answer.NoProbe p [] 0 0
    reads_of : {p : Place S} {ps : List ℤ} {q : Q} {t : R} → reads p.state p.sum q t → Does p ps (call.Read q) (answer.Read t) p ps 0 0

  -- the same, whatever the counts
  pub record Did (p : Place S) (ps : List ℤ) (c : Call Q) (a : Answer R) (q : Place S) (qs : List ℤ) : Type 0 where
    pub forward : ℕ
    pub back : ℕ
    pub does : Does p ps c a q qs forward back

  -- the call can be answered at p: a reading where something is read there, and any other call
  abbrev pub Answerable : Place S → Call Q → Type 0
  Answerable p (call.Forward k) = Unit {0}
  Answerable p (call.Back k) = Unit {0}
  Answerable p call.Sum = Unit {0}
  Answerable p call.Probe = Unit {0}
  Answerable p call.BringBack = Unit {0}
  Answerable p call.Keep = Unit {0}
  Answerable p (call.Read q) = (t : R) × reads p.state p.sum q t

  -- the call has an answer at p with the probes ps open
  pub record Answered (p : Place S) (ps : List ℤ) (c : Call Q) : Type 0 where
    pub gives : Answer R
    pub leads_to : Place S
    pub probes : List ℤ
    pub did : Did p ps c gives leads_to probes

  -- from o, these calls with these answers led to p, with the probes ps open;
  -- in all they granted f steps forward and b back
  pub data Run (o : Place S) : History Q R → Place S → List ℤ → ℕ → ℕ → Type 0 where
    begun : Run o [] o [] 0 0
    called : {h : History Q R} {p q : Place S} {ps qs : List ℤ} {f b f' b' : ℕ} {c : Call Q} {a : Answer R} → Run o h p ps f b → Does p ps c a q qs f' b' → Run o (h ++ ((c, a) ∷ [])) q qs (f + f') (b + b')
    -- where a list of calls ends, what is open is kept
    ended : {h : History Q R} {p : Place S} {ps : List ℤ} {f b : ℕ} → Run o h p ps f b → Run o h p [] f b

  -- the same, whatever the counts
  pub record Ran (o : Place S) (h : History Q R) (p : Place S) (ps : List ℤ) : Type 0 where
    pub forward : ℕ
    pub back : ℕ
    pub run : Run o h p ps forward back

  -- the calls of one list, from p on, where none of its probes is open yet: these calls with these answers led to q, with the probes qs open
  pub data Listed (p : Place S) : History Q R → Place S → List ℤ → Type 0 where
    none_yet : Listed p [] p []
    one_more : {h : History Q R} {q z : Place S} {qs zs : List ℤ} {c : Call Q} {a : Answer R} → Listed p h q qs → Did q qs c a z zs → Listed p (h ++ ((c, a) ∷ [])) z zs

  -- a list of calls performed at p, with these answers, led to q
  pub record Performed (p : Place S) (cs : List (Call Q)) (ds : List (Answer R)) (q : Place S) : Type 0 where
    -- one answer to each call
    pub each : length ds ≡ length cs
    -- each call is performed where those before it left the walk, with the probes open that they left open
    pub left_open : List ℤ
    pub in_turn : Listed p (paired cs ds) q left_open
    -- whatever run led to p, it goes on by exactly these calls with these answers
    pub goes_on : (o : Place S) (h : History Q R) → Ran o h p [] → Ran o (h ++ paired cs ds) q []

  -- the run law of one machine, since the opening at x
  pub record RunLaw : Type 0 where
    -- the sum is the steps granted forward less those granted back
    pub counts : (x : S) {h : History Q R} {p : Place S} {ps : List ℤ} {f b : ℕ} → Run (opening x) h p ps f b → p.sum ≡ pos f -ℤ pos b
    -- the machine stands that many next states after the opening, or before it
    pub stands : (x : S) {h : History Q R} {p : Place S} {ps : List ℤ} {f b : ℕ} → Run (opening x) h p ps f b → Stands next x p.sum p.state
    -- two walks alike in opening and sum are alike in state
    pub one_state : (x : S) {h i : History Q R} {p q : Place S} {ps qs : List ℤ} {f b g c : ℕ} → Run (opening x) h p ps f b → Run (opening x) i q qs g c → p.sum ≡ q.sum → p.state ≡ q.state
    -- each call has an answer, wherever the walk stands and whichever probes are open
    pub answers : (p : Place S) (ps : List ℤ) (c : Call Q) → Answerable p c → Answered p ps c
    -- and the same call, with the same k, query or latest probe's sum, answers alike and leads to one place
    pub one_answer : (x : S) {h i : History Q R} {p q p' q' : Place S} {ps qs ps' qs' : List ℤ} {f b g c f' b' g' c' : ℕ} {k : Call Q} {a d : Answer R} → Run (opening x) h p ps f b → Run (opening x) i q qs g c → p.sum ≡ q.sum → latest ps ≡ latest qs → Does p ps k a p' ps' f' b' → Does q qs k d q' qs' g' c' → (a ≡ d) × (p' ≡ q')
    -- bring-back reaches every place where the walk once stood
    pub returns : (x : S) {h i : History Q R} {p q : Place S} {ps qs : List ℤ} {f b g c : ℕ} (z : Place S) (a : Grant) → Run (opening x) h p ps f b → Run (opening x) i q qs g c → Brought next turned p.sum q z a → (a.1 ≡ None) × (z ≡ p)
    -- so a probe taken in the run is always reached again
    pub arrives : (x : S) {h : History Q R} {p q : Place S} {s : ℤ} {ps qs : List ℤ} {f b f' b' : ℕ} {a : Answer R} → Run (opening x) h p (s ∷ ps) f b → Does p (s ∷ ps) call.BringBack a q qs f' b' → (q.sum ≡ s) × ((n : ℕ) × (a ≡ answer.Moved (n, None)))
