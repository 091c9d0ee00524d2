-- Lines and the steps that a walk takes between them.
use Rattle.std.proofs.Common.{◌≡◌, ℕ, zero, suc, ◌-◌, ◌<◌, ◌≤◌, List, [], ◌∷◌, Some, None, Ok, Err, Option, Result, sym, refl, ap, ◌∙◌, subst, arith}
use Rattle.machine.specs.declared.reasons.Reason.{Reason}
use Rattle.machine.specs.declared.headings.Heading.TheVariants.{Up}
use Rattle.machine.specs.Steps.{Next, to, ends, then, go}
use Rattle.machine.specs.Lawful.{go_none, go_first}
use Rattle.machine.specs.Walks.{Place, Grant, Why, Granted, Asked, few, many, may}
use Rattle.token.specs.State.{State, turned}
use Rattle.token.specs.Next.{next}
use Rattle.writer.specs.Written.{Shown}
use Rattle.lab.specs.declared.stages.Stage.{Stage}
use Rattle.lab.specs.declared.stages.Stage.TheVariants.{Lines, End}
use Rattle.lab.specs.Listings.{lines, line_at, end_line, last_of, by_next, longest, rest_of, Listed}

abbrev step : Place State → Next (Place State)
step p = may Up next p

pub none_left : (p : Place State) → lines 0 p ≡ line_at p ∷ (end_line None p ∷ [])
unfolding lines
none_left p = refl

one_left : (n : ℕ) (p : Place State) (o : Next (Place State)) → step p ≡ o → lines (suc n) p ≡ line_at p ∷ by_next (λ w. end_line (Some w) p ∷ []) (lines n) o
unfolding lines
one_left n p o e = ap (λ x. line_at p ∷ by_next (λ w. end_line (Some w) p ∷ []) (lines n) x) e

-- what a call for k steps grants, from the first step on
stays : (p q : Place State) → go step 0 p ≡ to q → p ≡ q
stays p q h = let none = go_none step p in cc

begins : (g : ℕ) (p q : Place State) → go step (suc g) p ≡ to q → (r : Place State) × (step p ≡ to r) × (go step g r ≡ to q)
begins g p q h = by (step p) refl (sym (go_first step g p) ∙ h)
  where
    by : (o : Next (Place State)) → step p ≡ o → then o (go step g) ≡ to q → (r : Place State) × (step p ≡ to r) × (go step g r ≡ to q)
    by (to r) e k = (r, e, k)
    by (ends w) e k = absurd (let z : ◌≡◌ {A = ℕ} 0 1 = cc in omega arith)

-- there is a line after the first
last-after : (m : ℕ) (l : List ℕ) (r : Place State) → last_of (l ∷ lines m r) ≡ last_of (lines m r)
unfolding lines
last-after zero l r = refl
last-after (suc m) l r = refl

-- the end line of a walk that was granted g of n steps is the last of its lines
last_line : (n g : ℕ) (why : Option Reason) (p q : Place State) → Granted step n p q (g, why) → last_of (lines n p) ≡ end_line why q
last_line n zero (Some w) p q h = stop n h.why.0
  where
    same : p ≡ q
    same = stays p q h.came

    stop : (m : ℕ) → 0 < m → last_of (lines m p) ≡ end_line (Some w) q
    stop zero k = absurd (omega arith)
    stop (suc m) k = ap last_of (one_left m p (ends w) (ap step same ∙ h.why.1)) ∙ ap (end_line (Some w)) same
last_line zero zero None p q h = ap last_of (none_left p) ∙ ap (end_line None) (stays p q h.came)
last_line (suc n) zero None p q h = absurd (let e = h.why in omega arith)
last_line zero (suc g) None p q h = absurd (let e = h.why in omega arith)
last_line zero (suc g) (Some w) p q h = absurd (let e = h.why.0 in omega arith)
last_line (suc n) (suc g) why p q h =
    let (r, e, k) = begins g p q h.came in
    ap last_of (one_left n p (to r) e) ∙ last-after n (line_at p) r ∙ last_line n g why r q (record { came = k; why = fewer why h.why })
  where
    fewer : (why : Option Reason) → Why (step q) (suc n) (suc g) why → Why (step q) n g why
    fewer None e = omega arith
    fewer (Some w) e = let lt = e.0 in (omega arith, e.1)

-- what was asked for was granted
granted : (k : ℕ) (p q : Place State) (a : Grant) → k ≤ 1000000 → Asked Up next turned k p q a → Granted step k p q a
granted k p q a low (few h g) = g
granted k p q a low (many h e s) = absurd (omega arith)

pub outcome_shown : (p q : Place State) (a : Grant) → Asked Up next turned longest p q a → last_of (lines longest p) ≡ end_line a.1 q
outcome_shown p q a h = last_line longest a.0 a.1 p q (granted longest p q a (omega arith) h)

-- one step more
pub goes_on : (left : ℕ) (p q : Place State) (g : ℕ) → (left ≡ 0 → ⊥) → Asked Up next turned 1 p q (g, None) → lines left p ≡ line_at p ∷ lines (left - 1) q
goes_on zero p q g some h = absurd (some refl)
goes_on (suc n) p q g some h =
    let a = granted 1 p q (g, None) (omega arith) h in
    let one : g ≡ 1 = a.why in
    let (r, e, k) = begins 0 p q (ap (λ (m : ℕ). go step m p) (sym one) ∙ a.came) in
    let left : suc n - 1 ≡ n = omega arith in
    one_left n p (to r) e ∙ ap (λ s. line_at p ∷ lines n s) (stays r q k) ∙ ap (λ (m : ℕ). line_at p ∷ lines m q) (sym left)

pub ends_here : (left : ℕ) (p q : Place State) (g : ℕ) (w : Reason) → (left ≡ 0 → ⊥) → Asked Up next turned 1 p q (g, Some w) → lines left p ≡ line_at p ∷ (end_line (Some w) q ∷ [])
ends_here zero p q g w some h = absurd (some refl)
ends_here (suc n) p q g w some h =
    let a = granted 1 p q (g, Some w) (omega arith) h in
    let none : g ≡ 0 = let lt = a.why.0 in omega arith in
    let same = stays p q (ap (λ (m : ℕ). go step m p) (sym none) ∙ a.came) in
    one_left n p (ends w) (ap step same ∙ a.why.1) ∙ ap (λ s. line_at p ∷ (end_line (Some w) s ∷ [])) same

-- what a call for the next line leaves, by what it was to show

first-line : (left : ℕ) (p : Place State) → (more : List (List ℕ)) × (lines left p ≡ line_at p ∷ more)
unfolding lines
first-line zero p = (_, refl)
first-line (suc n) p = (_, refl)

module _ (s : Stage) (p : Place State) (old new : List ℕ) where
  pub line_listed : (left n : ℕ) (after : List (List ℕ)) → s ≡ Lines left → lines left p ≡ line_at p ∷ after → Shown (line_at p) old new (Ok n) → Listed (rest_of s p) after old new (Ok (Some n))
  line_listed left n after e h k = (line_at p, ap (λ t. rest_of t p) e ∙ h, k)

  pub end_listed : (why : Option Reason) (n : ℕ) → s ≡ End why → Shown (end_line why p) old new (Ok n) → Listed (rest_of s p) [] old new (Ok (Some n))
  end_listed why n e k = (end_line why p, ap (λ t. rest_of t p) e, k)

  pub line_too_long : (left : ℕ) (w : Reason) (r : Result (Option ℕ) Reason) → s ≡ Lines left → r ≡ Err w → Shown (line_at p) old new (Err w) → Listed (rest_of s p) (rest_of s p) old new r
  line_too_long left w r e f k =
      let first = first-line left p in
      subst (Listed (rest_of s p) (rest_of s p) old new) (sym f) (line_at p, first.0, ap (λ t. rest_of t p) e ∙ first.1, refl, k)

  pub end_too_long : (why : Option Reason) (w : Reason) (r : Result (Option ℕ) Reason) → s ≡ End why → r ≡ Err w → Shown (end_line why p) old new (Err w) → Listed (rest_of s p) (rest_of s p) old new r
  end_too_long why w r e f k =
      subst (Listed (rest_of s p) (rest_of s p) old new) (sym f) (end_line why p, [], ap (λ t. rest_of t p) e, refl, k)
