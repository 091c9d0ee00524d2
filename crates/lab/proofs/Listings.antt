-- What a listing tells, by induction on the steps left.
use Rattle.std.proofs.Common.{◌≡◌, ℕ, zero, suc, ◌+◌, ◌<◌, ◌≤◌, cond, [], ◌∷◌, length, get_or, pos, Some, None, sym, refl, ap, ◌∙◌, arith, lt-ltb}
use Rattle.machine.specs.declared.reasons.Reason.{Reason}
use Rattle.machine.specs.declared.reasons.Reason.TheVariants.{WalkLimit}
use Rattle.machine.specs.declared.headings.Heading.TheVariants.{Up}
use Rattle.machine.specs.Steps.{Next, to, ends, then, go}
use Rattle.machine.specs.Lawful.{go_none, go_first}
use Rattle.machine.specs.Walks.{place, may}
use Rattle.token.specs.State.{State}
use Rattle.token.specs.Next.{next}
use Rattle.lab.specs.Listings.{lines, line_at, end_line, by_next, placed, longest, ListingsTell}

-- below the walk's limit a step may be taken where there is a next state
may-next : (k : ℕ) (s : State) (o : Next State) → k < 2000000000 → next s ≡ o → may Up next (placed k s) ≡ then o (λ t. to (placed (suc k) t))
may-next k s o h e =
    ap (λ b. cond b (then (next s) (λ y. to (place y (pos (k + 1))))) (ends WalkLimit)) (lt-ltb k 2000000000 h)
    ∙ ap (λ x. then x (λ y. to (place y (pos (k + 1))))) e
    ∙ on o
  where
    on : (x : Next State) → then x (λ y. to (place y (pos (k + 1)))) ≡ then x (λ t. to (placed (suc k) t))
    on (to y) = let same : k + 1 ≡ suc k = omega arith in ap (λ n. to (placed n y)) same
    on (ends w) = refl

module _ (left k : ℕ) (s : State) (low : k < 2000000000) where
  pub goes_on : (u : State) → next s ≡ to u → lines (suc left) (placed k s) ≡ line_at (placed k s) ∷ lines left (placed (suc k) u)
  unfolding lines
  goes_on u e = ap (λ o. line_at (placed k s) ∷ by_next (λ w. end_line (Some w) (placed k s) ∷ []) (lines left) o) (may-next k s (to u) low e)

  pub stops_here : (w : Reason) → next s ≡ ends w → lines (suc left) (placed k s) ≡ line_at (placed k s) ∷ (end_line (Some w) (placed k s) ∷ [])
  unfolding lines
  stops_here w e = ap (λ o. line_at (placed k s) ∷ by_next (λ w. end_line (Some w) (placed k s) ∷ []) (lines left) o) (may-next k s (ends w) low e)

first-line : (left k : ℕ) (s : State) → get_or (lines left (placed k s)) 0 [] ≡ line_at (placed k s)
unfolding lines
first-line zero k s = refl
first-line (suc left) k s = refl

pub no_steps_left : (k : ℕ) (s : State) → lines 0 (placed k s) ≡ line_at (placed k s) ∷ (end_line None (placed k s) ∷ [])
unfolding lines
no_steps_left k s = refl

-- a way of more than no steps begins with one
begins : (j : ℕ) (s t : State) → go next (suc j) s ≡ to t → (u : State) × (next s ≡ to u) × (go next j u ≡ to t)
begins j s t h = by (next s) refl (sym (go_first next j s) ∙ h)
  where
    by : (o : Next State) → next s ≡ o → then o (go next j) ≡ to t → (u : State) × (next s ≡ to u) × (go next j u ≡ to t)
    by (to u) e g = (u, e, g)
    by (ends w) e g = absurd (let z : ◌≡◌ {A = ℕ} 0 1 = cc in omega arith)

stays : (s t : State) → go next 0 s ≡ to t → s ≡ t
stays s t h = let none = go_none next s in cc

-- what stands in the lines of a way of left steps and more, j steps on
each_line : (left k j : ℕ) (s t : State) → k + left ≤ longest → j ≤ left → go next j s ≡ to t → get_or (lines left (placed k s)) j [] ≡ line_at (placed (k + j) t)
each_line left k zero s t few h g =
    let same : k + 0 ≡ k = omega arith in
    first-line left k s ∙ ap (λ u. line_at (placed k u)) (stays s t g) ∙ ap (λ n. line_at (placed n t)) (sym same)
each_line zero k (suc j) s t few h g = absurd (omega arith)
each_line (suc left) k (suc j) s t few h g =
    let (u, e, rest) = begins j s t g in
    let same : suc k + j ≡ k + suc j = omega arith in
    ap (λ ls. get_or ls (suc j) []) (goes_on left k s (omega arith) u e)
    ∙ each_line left (suc k) j u t (omega arith) (omega arith) rest
    ∙ ap (λ n. line_at (placed n t)) same

-- where the way stops after j steps
stopped_line : (left k j : ℕ) (s t : State) (w : Reason) → k + left ≤ longest → j < left → go next j s ≡ to t → next t ≡ ends w → (get_or (lines left (placed k s)) (j + 1) [] ≡ end_line (Some w) (placed (k + j) t)) × (length (lines left (placed k s)) ≡ j + 2)
stopped_line zero k j s t w few h g e = absurd (omega arith)
stopped_line (suc left) k zero s t w few h g e =
    let same : k + 0 ≡ k = omega arith in
    let is = stops_here left k s (omega arith) w (ap next (stays s t g) ∙ e) in (
      ap (λ ls. get_or ls 1 []) is ∙ ap (λ u. end_line (Some w) (placed k u)) (stays s t g) ∙ ap (λ n. end_line (Some w) (placed n t)) (sym same),
      ap length is,
    )
stopped_line (suc left) k (suc j) s t w few h g e =
    let (u, f, rest) = begins j s t g in
    let same : suc k + j ≡ k + suc j = omega arith in
    let is = goes_on left k s (omega arith) u f in
    let (end, long) = stopped_line left (suc k) j u t w (omega arith) (omega arith) rest e in
    let place : suc j + 1 ≡ suc (j + 1) = omega arith in (
      ap (λ ls. get_or ls (suc j + 1) []) is ∙ ap (λ n. get_or (line_at (placed k s) ∷ lines left (placed (suc k) u)) n []) place ∙ end ∙ ap (λ n. end_line (Some w) (placed n t)) same,
      ap length is ∙ (let more = long in omega arith),
    )

-- where it is cut off after all the steps
cut_line : (left k : ℕ) (s t : State) → k + left ≤ longest → go next left s ≡ to t → (get_or (lines left (placed k s)) (left + 1) [] ≡ end_line None (placed (k + left) t)) × (length (lines left (placed k s)) ≡ left + 2)
cut_line zero k s t few g =
    let same : k + 0 ≡ k = omega arith in
    let is = no_steps_left k s in (
      ap (λ ls. get_or ls 1 []) is ∙ ap (λ u. end_line None (placed k u)) (stays s t g) ∙ ap (λ n. end_line None (placed n t)) (sym same),
      ap length is,
    )
cut_line (suc left) k s t few g =
    let (u, f, rest) = begins left s t g in
    let same : suc k + left ≡ k + suc left = omega arith in
    let is = goes_on left k s (omega arith) u f in
    let (end, long) = cut_line left (suc k) u t (omega arith) rest in
    let place : suc left + 1 ≡ suc (left + 1) = omega arith in (
      ap (λ ls. get_or ls (suc left + 1) []) is ∙ ap (λ n. get_or (line_at (placed k s) ∷ lines left (placed (suc k) u)) n []) place ∙ end ∙ ap (λ n. end_line None (placed n t)) same,
      ap length is ∙ (let more = long in omega arith),
    )

at_zero : (j : ℕ) → 0 + j ≡ j
at_zero j = omega arith

pub listings_tell : ListingsTell
listings_tell s = record {
  each = λ k t h g. each_line longest 0 k s t (omega arith) h g ∙ ap (λ n. line_at (placed n t)) (at_zero k);
  stopped = λ k t w h g e.
      let (end, long) = stopped_line longest 0 k s t w (omega arith) h g e in
      (end ∙ ap (λ n. end_line (Some w) (placed n t)) (at_zero k), long);
  cut = λ t g.
      let (end, long) = cut_line longest 0 s t (omega arith) g in
      (end ∙ ap (λ n. end_line None (placed n t)) (at_zero longest), long);
}
