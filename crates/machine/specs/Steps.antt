-- What a lawful machine is, and what n next states come to.
use Rattle.std.specs.Prelude.{◌≡◌, ℕ, zero, suc, Ok, Err, Result}
use Rattle.machine.specs.declared.reasons.Reason.{Reason}

-- the next state, or the reason why there is none
pub data Next (S : Type 0) : Type 0 where
  to : S → Next S
  ends : Reason → Next S

-- the two laws of a machine: turning twice gives the state back,
-- and if y is next after x, the turned x is next after the turned y
pub record Laws {S : Type 0} (next : S → Next S) (turned : S → S) : Type 0 where
  pub twice : (x : S) → turned (turned x) ≡ x
  pub back : (x y : S) → next x ≡ to y → next (turned y) ≡ to (turned x)

-- a step from x that leaves y: y is next after x, or y is x and the reason is why x has no next
abbrev pub Took : {S U : Type 0} → (S → Next S) → S → S → Result U Reason → Type 0
Took next x y (Ok u) = next x ≡ to y
Took next x y (Err w) = (next x ≡ ends w) × (y ≡ x)

-- the way goes on from a state that was reached, and stays ended where it ended
abbrev pub then : {S T : Type 0} → Next S → (S → Next T) → Next T
then (to x) f = f x
then (ends w) f = ends w

-- n next states taken one after another, or the reason met first
unfoldable pub go : {S : Type 0} → (S → Next S) → ℕ → S → Next S
go next zero x = to x
go next (suc n) x = then (go next n x) next
