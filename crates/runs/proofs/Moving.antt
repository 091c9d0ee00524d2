-- How far a walk goes, and when all its steps are granted.
use Rattle.std.proofs.Common.{◌≡◌, ℕ, zero, suc, ◌+◌, Bool, true, false, cond, ℤ, pos, negsuc, ◌+ℤ◌, ◌-ℤ◌, nat_abs, ◌≤ℤ◌, ◌<ℤ◌, None, sym, refl, ap, ◌∙◌, arith}
use lib.Signed.{le_z}
use Rattle.std.proofs.lemmas.Int.{ints}
use Rattle.machine.specs.declared.reasons.Reason.TheVariants.{WalkLimit}
use Rattle.machine.specs.declared.headings.Heading.{Heading}
use Rattle.machine.specs.declared.headings.Heading.TheVariants.{Up, Down}
use Rattle.machine.specs.Steps.{Next, to, ends, then, go, Laws}
use Rattle.machine.specs.Walks.{Place, place, about, room, moved, may, Grant, Goes, Asked, few, many, Brought}
use Rattle.machine.specs.Lawful.{go_none, go_split, go_back}
use Rattle.machine.proofs.Ways.{go_more}
use Rattle.runs.specs.Runs.{Stands, forth, back}
use Rattle.runs.proofs.Standing.{stands_on, stands_back}

-- the sum after g steps, and that it then keeps within the limit
abbrev pub after : Heading → ℤ → ℕ → ℤ
after Up s g = s +ℤ pos g
after Down s g = s -ℤ pos g

abbrev pub Fits : Heading → ℤ → Type 0
Fits Up s = s ≤ℤ pos 2000000000
Fits Down s = negsuc 1999999999 ≤ℤ s

after_none : (h : Heading) (s : ℤ) → s ≡ after h s 0
after_none Up s = omega (arith, ints)
after_none Down s = omega (arith, ints)

after_more : (h : Heading) (s : ℤ) (g : ℕ) → moved h (after h s g) ≡ after h s (suc g)
after_more Up s g = omega (arith, ints)
after_more Down s g = omega (arith, ints)

fits-room : (h : Heading) (s : ℤ) (g : ℕ) → Fits h (after h s (suc g)) → (room h (after h s g) ≡ true) × Fits h (after h s g)
fits-room Up s g f = (grind (arith, ints), omega (arith, ints))
fits-room Down s g f = (grind (arith, ints), omega (arith, ints))

room_fits : (h : Heading) (s : ℤ) → room h s ≡ true → Fits h (moved h s)
room_fits Up s e = grind (arith, ints)
room_fits Down s e = grind (arith, ints)

module _ {S : Type 0} (h : Heading) (next : S → Next S) where
  may_inv : (p q : Place S) → may h next p ≡ to q → (room h p.sum ≡ true) × (next p.state ≡ to q.state) × (q.sum ≡ moved h p.sum)
  may_inv p q e = by (room h p.sum) refl (next p.state) refl e
    where
      by : (b : Bool) → room h p.sum ≡ b → (o : Next S) → next p.state ≡ o → cond b (then o (λ y. to (place y (moved h p.sum)))) (ends WalkLimit) ≡ to q → (room h p.sum ≡ true) × (next p.state ≡ to q.state) × (q.sum ≡ moved h p.sum)
      by true eb (to y) eo e =
          let same : place y (moved h p.sum) ≡ q = cc in
          (eb, eo ∙ ap (λ z. to z.state) same, ap (λ z. z.sum) (sym same))
      by true eb (ends w) eo e = absurd (let z : ◌≡◌ {A = ℕ} 0 1 = cc in omega arith)
      by false eb o eo e = absurd (let z : ◌≡◌ {A = ℕ} 0 1 = cc in omega arith)

  -- the machine went as far as the sum did
  pub may_came : (g : ℕ) (p q : Place S) → go (may h next) g p ≡ to q → (go next g p.state ≡ to q.state) × (q.sum ≡ after h p.sum g)
  may_came zero p q e =
      let start = go_none (may h next) p in
      let same : p ≡ q = cc in
      (go_none next p.state ∙ ap (λ z. to z.state) same, ap (λ z. z.sum) (sym same) ∙ after_none h p.sum)
  may_came (suc g) p q e =
      let s = go_split (may h next) g p q e in
      let before = may_came g p s.0 s.1 in
      let last = may_inv s.0 q s.2 in
      (more (go_more next g p.state s.0.state q.state before.0 last.1), last.2 ∙ ap (moved h) before.1 ∙ after_more h p.sum g)
    where
      more : go next (g + 1) p.state ≡ to q.state → go next (suc g) p.state ≡ to q.state
      more e = let is : suc g ≡ g + 1 = omega arith in ap (λ n. go next n p.state) is ∙ e

  -- and within the limit
  pub may_fits : (g : ℕ) (p q : Place S) → Fits h p.sum → go (may h next) g p ≡ to q → Fits h q.sum
  may_fits zero p q f e =
      let start = go_none (may h next) p in
      let same : p ≡ q = cc in
      rw (sym same) f
  may_fits (suc g) p q f e =
      let s = go_split (may h next) g p q e in
      let last = may_inv s.0 q s.2 in
      rw last.2 (room_fits h s.0.sum last.0)

  -- where the machine has the way and the sum the room, all steps may be taken
  pub may_go : (g : ℕ) (x y : S) (s : ℤ) → go next g x ≡ to y → Fits h (after h s g) → go (may h next) g (place x s) ≡ to (place y (after h s g))
  may_go zero x y s e f =
      let start = go_none next x in
      let same : x ≡ y = cc in
      go_none (may h next) (place x s) ∙ rw (same, sym (after_none h s)) refl
  may_go (suc g) x z s e f =
      let t = go_split next g x z e in
      let free = fits-room h s g f in
      let before = may_go g x t.0 s t.1 free.1 in
      let step : may h next (place t.0 (after h s g)) ≡ to (place z (after h s (suc g))) = rw (free.0, t.2, after_more h s g) refl in
      let is : suc g ≡ g + 1 = omega arith in
      ap (λ n. go (may h next) n (place x s)) is ∙ go_more (may h next) g (place x s) (place t.0 (after h s g)) (place z (after h s (suc g))) before step

-- what a call moves, whichever way it goes

abbrev pub Within : ℤ → Type 0
Within s = (negsuc 1999999999 ≤ℤ s) × (s ≤ℤ pos 2000000000)

-- from p to q, f steps forward and b back
pub record Moves {S : Type 0} (next : S → Next S) (p q : Place S) (f b : ℕ) : Type 0 where
  pub tally : q.sum ≡ (p.sum +ℤ pos f) -ℤ pos b
  pub within : Within p.sum → Within q.sum
  pub stands : (x : S) → Stands next x p.sum p.state → Stands next x q.sum q.state

pub stays : {S : Type 0} (next : S → Next S) (p q : Place S) → q ≡ p → Moves next p q 0 0
stays next p q e = record {
  tally = let es : q.sum ≡ p.sum = ap (λ z. z.sum) e in omega (arith, ints);
  within = λ w. rw e w;
  stands = λ x s. rw e s;
}

module _ {S : Type 0} {next : S → Next S} {turned : S → S} (laws : Laws next turned) where
  pub goes_moves : (h : Heading) (k : ℕ) (p q : Place S) (a : Grant) → Goes h next turned k p q a → Moves next p q (forth h a.0) (back h a.0)
  goes_moves Up k p q a r =
      let m = may_came Up next a.0 p q r.came in
      record {
        tally = let e = m.1 in omega (arith, ints);
        within = λ w. (let e = m.1 in omega (arith, ints, w.0), may_fits Up next a.0 p q w.1 r.came);
        stands = λ x s. stands_on next a.0 m.1 s m.0;
      }
  goes_moves Down k p q a r =
      let m = may_came Down next a.0 (about turned p) (about turned q) r.came in
      let way : go next a.0 q.state ≡ to p.state = rw (laws.twice q.state, laws.twice p.state) at (go_back laws a.0 (turned p.state) (turned q.state) m.0) in
      record {
        tally = let e = m.1 in omega (arith, ints);
        within = λ w. (may_fits Down next a.0 (about turned p) (about turned q) w.0 r.came, let e = m.1 in omega (arith, ints, w.1));
        stands = λ x s. stands_back laws a.0 m.1 s way;
      }

  pub asked_moves : (h : Heading) (k : ℕ) (p q : Place S) (a : Grant) → Asked h next turned k p q a → Moves next p q (forth h a.0) (back h a.0)
  asked_moves h k p q a (few le r) = goes_moves h k p q a r
  asked_moves h k p q a (many lt e same) = at h a.0 (ap (λ (d : Grant). d.0) e)
    where
      at : (h : Heading) (g : ℕ) → g ≡ 0 → Moves next p q (forth h g) (back h g)
      at Up g e = rw e (stays next p q same)
      at Down g e = rw e (stays next p q same)

  -- a state that is known to stand so far off is reached
  goes_all : (h : Heading) (n : ℕ) (p : Place S) (y : S) (t : ℤ) → t ≡ after h p.sum n → Within t → Stands next p.state (t -ℤ p.sum) y → Goes h next turned n p (place y t) (n, None)
  goes_all Up n p y t e w s = record {
    came = may_go Up next n p.state y p.sum (s.ahead n (omega (arith, ints))) (rw (sym e) w.1) ∙ ap (λ z. to (place y z)) (sym e);
    why = refl;
  }
  goes_all Down n p y t e w s = record {
    came = may_go Down next n (turned p.state) (turned y) p.sum (go_back laws n y p.state (s.behind n (omega (arith, ints)))) (rw (sym e) w.0) ∙ ap (λ z. to (place (turned y) z)) (sym e);
    why = refl;
  }

  pub brought_there : (p : Place S) (y : S) (t : ℤ) → Within t → Stands next p.state (t -ℤ p.sum) y → Brought next turned t p (place y t) (nat_abs (t -ℤ p.sum), None)
  brought_there p y t w s = by (le_z p.sum t) refl
    where
      by : (b : Bool) → le_z p.sum t ≡ b → Goes (cond b Up Down) next turned (nat_abs (t -ℤ p.sum)) p (place y t) (nat_abs (t -ℤ p.sum), None)
      by true e = goes_all Up (nat_abs (t -ℤ p.sum)) p y t (let le : p.sum ≤ℤ t = grind (arith, ints) in omega (arith, ints)) w s
      by false e = goes_all Down (nat_abs (t -ℤ p.sum)) p y t (let lt : t <ℤ p.sum = grind (arith, ints) in omega (arith, ints)) w s
