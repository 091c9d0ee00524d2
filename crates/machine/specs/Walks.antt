-- Where a walk stands, and what its calls answer.
use Rattle.std.specs.Prelude.{◌≡◌, ℕ, ◌<◌, ◌≤◌, Bool, cond, ℤ, pos, negsuc, ◌+ℤ◌, ◌-ℤ◌, Some, None, Option, int_le, int_lt, unsigned_abs}
use Rattle.machine.specs.declared.reasons.Reason.{Reason}
use Rattle.machine.specs.declared.reasons.Reason.TheVariants.{WalkLimit, TooManySteps}
use Rattle.machine.specs.declared.headings.Heading.{Heading}
use Rattle.machine.specs.declared.headings.Heading.TheVariants.{Up, Down}
use Rattle.machine.specs.Steps.{Next, to, ends, then, go}

-- the state of a walk's machine, and the walk's sum
pub record Place (S : Type 0) : Type 0 where
  pub state : S
  pub sum : ℤ

abbrev pub place : {S : Type 0} → S → ℤ → Place S
place x s = record { state = x; sum = s }

-- a walk opens at any state, with sum 0
abbrev pub opening : {S : Type 0} → S → Place S
opening x = place x (pos 0)

-- the same place with the machine turned
abbrev pub about : {S : Type 0} → (S → S) → Place S → Place S
about turned p = place (turned p.state) p.sum

-- the sum stays from −2,000,000,000 to 2,000,000,000
abbrev pub room : Heading → ℤ → Bool
room Up s = int_lt s (pos 2000000000)
room Down s = int_lt (negsuc 1999999999) s

abbrev pub moved : Heading → ℤ → ℤ
moved Up s = s +ℤ pos 1
moved Down s = s -ℤ pos 1

-- may a step be taken: first the walk's limit is asked, then the machine
abbrev pub may : {S : Type 0} → Heading → (S → Next S) → Place S → Next (Place S)
may h next p = cond (room h p.sum) (then (next p.state) (λ y. to (place y (moved h p.sum)))) (ends WalkLimit)

-- the steps granted, and why not all
abbrev pub Grant : Type 0
Grant = ℕ × Option Reason

-- why g of k steps were granted: no reason exactly if all were, else the one met after them
abbrev pub Why : {P : Type 0} → Next P → ℕ → ℕ → Option Reason → Type 0
Why met k g None = g ≡ k
Why met k g (Some w) = (g < k) × (met ≡ ends w)

-- of k steps wanted at p, so many were granted, up to q
pub record Granted {P : Type 0} (next : P → Next P) (k : ℕ) (p q : P) (a : Grant) : Type 0 where
  pub came : go next a.0 p ≡ to q
  pub why : Why (next q) k a.0 a.1

-- k steps are wanted at p: up, or down, which is up for the turned machine, turned again at the end
abbrev pub Goes : {S : Type 0} → Heading → (S → Next S) → (S → S) → ℕ → Place S → Place S → Grant → Type 0
Goes Up next turned k p q a = Granted (may Up next) k p q a
Goes Down next turned k p q a = Granted (may Down next) k (about turned p) (about turned q) a

-- forward and back: more than 1,000,000 steps are not begun
pub data Asked {S : Type 0} (h : Heading) (next : S → Next S) (turned : S → S) (k : ℕ) (p q : Place S) (a : Grant) : Type 0 where
  few : k ≤ 1000000 → Goes h next turned k p q a → Asked h next turned k p q a
  many : 1000000 < k → a ≡ (0, Some TooManySteps) → q ≡ p → Asked h next turned k p q a

-- up to a sum that is not lower, down to a lower one
abbrev pub towards : ℤ → ℤ → Heading
towards s t = cond (int_le s t) Up Down

-- bring-back: as many steps are wanted as the sum is off the target
abbrev pub Brought : {S : Type 0} → (S → Next S) → (S → S) → ℤ → Place S → Place S → Grant → Type 0
Brought next turned t p q a = Goes (towards p.sum t) next turned (unsigned_abs (t -ℤ p.sum)) p q a
