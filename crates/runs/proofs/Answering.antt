-- What a performed call does, from what the walk's calls answer.
use Rattle.std.proofs.Common.{◌≡◌, ℕ, List, [], ◌∷◌, ◌++◌, map, reverse, length, ℤ, refl, ap, ◌∙◌, arith}
use mathlib.Core.List.{map-append, reverse-append}
use Rattle.runs.specs.declared.calls.Call.{Call}
use Rattle.runs.specs.declared.calls.Call.TheVariants as call
use Rattle.runs.specs.declared.calls.Answer.TheVariants as answer
use Rattle.machine.specs.declared.headings.Heading.TheVariants.{Up, Down}
use Rattle.machine.specs.Steps.{Next}
use Rattle.machine.specs.Walks.{Place, Grant, Asked, Brought}
use Rattle.runs.specs.Runs.{Did, goes_forward, goes_back, tells_sum, takes_probe, brings_back, keeps, brings_none, keeps_none, reads_of, latest_first}

-- the last of a stack is its latest
latest-last : {P : Type 0} (sum : P → ℤ) (xs : List P) (x : P) → latest_first sum (xs ++ (x ∷ [])) ≡ sum x ∷ latest_first sum xs
latest-last sum xs x = ap reverse (map-append sum xs (x ∷ [])) ∙ reverse-append (map sum xs) (sum x ∷ [])

none_left : {X : Type 0} (xs : List X) → length xs ≡ 0 → xs ≡ []
none_left [] e = refl
none_left (x ∷ xs) e = absurd (omega arith)

module _ {S Q R : Type 0} {next : S → Next S} {turned : S → S} {reads : S → ℤ → Q → R → Type 0} {c : Call Q} where
  pub did_forward : {p q : Place S} {ps : List ℤ} {k : ℕ} {a : Grant} → c ≡ call.Forward k → Asked Up next turned k p q a → Did next turned reads p ps c (answer.Moved a) q ps
  did_forward e r = rw e (record { forward = _; back = _; does = goes_forward r })

  pub did_back : {p q : Place S} {ps : List ℤ} {k : ℕ} {a : Grant} → c ≡ call.Back k → Asked Down next turned k p q a → Did next turned reads p ps c (answer.Moved a) q ps
  did_back e r = rw e (record { forward = _; back = _; does = goes_back r })

  pub did_sum : {p : Place S} {ps : List ℤ} {s : ℤ} → c ≡ call.Sum → s ≡ p.sum → Did next turned reads p ps c (answer.Sum s) p ps
  did_sum e es = rw (e, es) (record { forward = _; back = _; does = tells_sum })

  pub did_read : {p : Place S} {ps : List ℤ} {q : Q} {t : R} → c ≡ call.Read q → reads p.state p.sum q t → Did next turned reads p ps c (answer.Read t) p ps
  did_read e r = rw e (record { forward = _; back = _; does = reads_of r })

  pub did_probe : {P : Type 0} (sum : P → ℤ) (xs ys : List P) (x : P) {p : Place S} → c ≡ call.Probe → sum x ≡ p.sum → ys ≡ xs ++ (x ∷ []) → Did next turned reads p (latest_first sum xs) c answer.Probed p (latest_first sum ys)
  did_probe sum xs ys x e es ey = rw (e, ey, latest-last sum xs x, es) (record { forward = _; back = _; does = takes_probe })

  pub did_bring : {P : Type 0} (sum : P → ℤ) (xs ys : List P) (x : P) {p q : Place S} {a : Grant} → c ≡ call.BringBack → xs ≡ ys ++ (x ∷ []) → Brought next turned (sum x) p q a → Did next turned reads p (latest_first sum xs) c (answer.Moved a) q (latest_first sum ys)
  did_bring sum xs ys x e ex r = rw (e, ex, latest-last sum ys x) (record { forward = _; back = _; does = brings_back r })

  pub did_keep : {P : Type 0} (sum : P → ℤ) (xs ys : List P) (x : P) {p : Place S} → c ≡ call.Keep → xs ≡ ys ++ (x ∷ []) → Did next turned reads p (latest_first sum xs) c answer.Kept p (latest_first sum ys)
  did_keep sum xs ys x e ex = rw (e, ex, latest-last sum ys x) (record { forward = _; back = _; does = keeps })

  pub did_bring_none : {P : Type 0} (sum : P → ℤ) (xs ys : List P) {p : Place S} → c ≡ call.BringBack → length xs ≡ 0 → length ys ≡ 0 → Did next turned reads p (latest_first sum xs) c answer.NoProbe p (latest_first sum ys)
  did_bring_none sum xs ys e ex ey = rw (e, none_left xs ex, none_left ys ey) (record { forward = _; back = _; does = brings_none })

  pub did_keep_none : {P : Type 0} (sum : P → ℤ) (xs ys : List P) {p : Place S} → c ≡ call.Keep → length xs ≡ 0 → length ys ≡ 0 → Did next turned reads p (latest_first sum xs) c answer.NoProbe p (latest_first sum ys)
  did_keep_none sum xs ys e ex ey = rw (e, none_left xs ex, none_left ys ey) (record { forward = _; back = _; does = keeps_none })
