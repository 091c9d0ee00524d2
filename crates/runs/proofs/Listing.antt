-- A list of calls performed one after another.
use Rattle.std.proofs.Common.{◌≡◌, ℕ, ◌+◌, ◌<◌, ◌≤◌, List, [], ◌∷◌, ◌++◌, map, length, get_or, take, ℤ, Option, sym, refl, ap, ◌∙◌, subst, zero, suc, append_assoc, append-nil, arith}
use mathlib.Core.List.{map-append}
use Rattle.std.specs.List.{zip}
use Rattle.std.proofs.lemmas.List.{take_more, take_all, length-take-le, length-map}
use Rattle.runs.specs.declared.calls.Call.{Call}
use Rattle.runs.specs.declared.calls.Answer.{Answer}
use Rattle.machine.specs.Steps.{Next}
use Rattle.machine.specs.Walks.{Place}
use Rattle.runs.specs.Readings.{Reads, Ready, AllReady}
use Rattle.runs.specs.Runs.{Did, called, ended, Ran, paired, Listed, none_yet, one_more, Performed, latest_first}

-- at one state and sum a query has one reading
pub reads_once : {M S Q R : Type 0} (state : M → S) (reading : M → ℤ → Q → R) (y : S) (s : ℤ) (q : Q) (t u : R) → Reads state reading y s q t → Reads state reading y s q u → t ≡ u
reads_once state reading y s q t u r v = r.alike r.someone r.stands ∙ sym (v.alike r.someone r.stands)

-- the room for the calls

module _ {Q X : Type 0} (fits : Q → X → Type 0) where
  ready_more : (cs : List (Call Q)) (xs : List (Option X)) (c : Call Q) (x : Option X) → AllReady fits cs xs → Ready fits c x → AllReady fits (cs ++ (c ∷ [])) (xs ++ (x ∷ []))
  ready_more [] [] c x a r = (r, tt)
  ready_more [] (y ∷ ys) c x a r = absurd a
  ready_more (d ∷ cs) [] c x a r = absurd a
  ready_more (d ∷ cs) (y ∷ ys) c x a r = (a.0, ready_more cs ys c x a.1 r)

  pub rooms_more : (cs : List (Call Q)) (i : ℕ) (c : Call Q) (xs ys : List (Option X)) (x : Option X) → i < length cs → c ≡ get_or cs i c → ys ≡ xs ++ (x ∷ []) → AllReady fits (take i cs) xs → Ready fits c x → AllReady fits (take (i + 1) cs) ys
  rooms_more cs i c xs ys x lt e ey a r =
      let front : take (i + 1) cs ≡ take i cs ++ (c ∷ []) = take_more cs i c lt ∙ ap (λ z. take i cs ++ (z ∷ [])) (sym e) in
      rw (front, ey) (ready_more (take i cs) xs c x a r)

  -- each turn has a call and the room for it
  pub turn_ready : (cs : List (Call Q)) (xs : List (Option X)) (i : ℕ) (c : Call Q) (x : Option X) → AllReady fits cs xs → (i < length (zip cs xs)) × ((c, x) ≡ get_or (zip cs xs) i (c, x)) → (i < length cs) × (c ≡ get_or cs i c) × Ready fits c x
  turn_ready [] xs i c x a h = absurd (omega (arith, h.0))
  turn_ready (d ∷ cs) [] i c x a h = absurd a
  turn_ready (d ∷ cs) (y ∷ ys) zero c x a h = (omega arith, ap (λ p. p.0) h.1, subst (λ (p : Call Q × Option X). Ready fits p.0 p.1) (sym h.1) a.0)
  turn_ready (d ∷ cs) (y ∷ ys) (suc i) c x a h = let t = turn_ready cs ys i c x a.1 (omega (arith, h.0), h.1) in (omega (arith, t.0), t.1, t.2)

  pub turns_all : (cs : List (Call Q)) (xs : List (Option X)) → AllReady fits cs xs → length (zip cs xs) ≡ length cs
  turns_all [] xs a = refl
  turns_all (d ∷ cs) [] a = absurd a
  turns_all (d ∷ cs) (y ∷ ys) a = ap suc (turns_all cs ys a.1)

-- the run of the calls

pub listed-begun : {S Q R P : Type 0} {next : S → Next S} {turned : S → S} {reads : S → ℤ → Q → R → Type 0} {p : Place S} (sum : P → ℤ) (xs : List P) → xs ≡ [] → Listed next turned reads p [] p (latest_first sum xs)
listed-begun sum xs e = rw e none_yet

paired_more : {Y Z : Type 0} (cs : List Y) (ds : List Z) (c : Y) (d : Z) → length cs ≡ length ds → paired (cs ++ (c ∷ [])) (ds ++ (d ∷ [])) ≡ paired cs ds ++ ((c, d) ∷ [])
paired_more [] [] c d e = refl
paired_more [] (y ∷ ds) c d e = absurd (omega arith)
paired_more (x ∷ cs) [] c d e = absurd (omega arith)
paired_more (x ∷ cs) (y ∷ ds) c d e = ap (λ l. (x, y) ∷ l) (paired_more cs ds c d (omega arith))

module _ {S Q R : Type 0} {next : S → Next S} {turned : S → S} {reads : S → ℤ → Q → R → Type 0} (o : Place S) (h : List (Call Q × Answer R)) where
  ran_called : {p q : Place S} {ps qs : List ℤ} {c : Call Q} {d : Answer R} → Ran next turned reads o h p ps → Did next turned reads p ps c d q qs → Ran next turned reads o (h ++ ((c, d) ∷ [])) q qs
  ran_called r d = record { forward = r.forward + d.forward; back = r.back + d.back; run = called r.run d.does }

  ran_ended : {p : Place S} {ps : List ℤ} → Ran next turned reads o h p ps → Ran next turned reads o h p []
  ran_ended r = record { forward = r.forward; back = r.back; run = ended r.run }

-- a run goes on by a list of calls
ran_listed : {S Q R : Type 0} {next : S → Next S} {turned : S → S} {reads : S → ℤ → Q → R → Type 0} (o : Place S) (h : List (Call Q × Answer R)) {p q : Place S} {k : List (Call Q × Answer R)} {qs : List ℤ} → Ran next turned reads o h p [] → Listed next turned reads p k q qs → Ran next turned reads o (h ++ k) q qs
ran_listed o h r none_yet = rw (append-nil h) r
ran_listed o h r (one_more {h = k} {c = c} {a = a} l d) = rw (← append_assoc h k ((c, a) ∷ [])) (ran_called o (h ++ k) (ran_listed o h r l) d)

module _ {S Q R X : Type 0} {next : S → Next S} {turned : S → S} {reads : S → ℤ → Q → R → Type 0} (told : X → Answer R) (cs : List (Call Q)) where
  pub listed_more : {p q z : Place S} {qs zs : List ℤ} (i : ℕ) (c : Call Q) (xs ys : List X) (x : X) → i < length cs → c ≡ get_or cs i c → length xs ≡ i → ys ≡ xs ++ (x ∷ [])
      → Listed next turned reads p (paired (take i cs) (map told xs)) q qs → Did next turned reads q qs c (told x) z zs → Listed next turned reads p (paired (take (i + 1) cs) (map told ys)) z zs
  listed_more i c xs ys x lt e long ey r d =
      let front : take (i + 1) cs ≡ take i cs ++ (c ∷ []) = take_more cs i c lt ∙ ap (λ z. take i cs ++ (z ∷ [])) (sym e) in
      let le : i ≤ length cs = omega arith in
      let same : length (take i cs) ≡ length (map told xs) = length-take-le i cs le ∙ sym long ∙ sym (length-map xs told) in
      rw (ey, map-append told xs (x ∷ []), front, paired_more (take i cs) (map told xs) c (told x) same) (one_more r d)

  pub all_performed : (i : ℕ) (xs : List X) {p q : Place S} {qs : List ℤ} → length cs ≤ i → length xs ≡ length cs → Listed next turned reads p (paired (take i cs) (map told xs)) q qs → Performed next turned reads p cs (map told xs) q
  all_performed i xs {p} {q} {qs} le long l =
      let whole : Listed next turned reads p (paired cs (map told xs)) q qs = rw (take_all i cs le) at l in
      record {
        each = length-map xs told ∙ long;
        left_open = qs;
        in_turn = whole;
        goes_on = λ o h r. ran_ended o (h ++ paired cs (map told xs)) (ran_listed o h r whole);
      }
