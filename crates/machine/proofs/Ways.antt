-- Ways of n next states, over any next.
use Rattle.std.proofs.Common.{◌≡◌, ℕ, zero, suc, ◌+◌, ◌-◌, ◌<◌, ◌≤◌, sym, ap, ◌∙◌, suc-add, zero-add, add-one, arith}
use Rattle.machine.specs.declared.reasons.Reason.{Reason}
use Rattle.machine.specs.Steps.{Next, to, ends, then, go}

module _ {S : Type 0} (next : S → Next S) where
  -- one more
  pub go_more : (n : ℕ) (x y z : S) → go next n x ≡ to y → next y ≡ to z → go next (n + 1) x ≡ to z
  unfolding go
  go_more n x y z h e = rw add-one (ap (λ o. then o next) h ∙ e)

  pub go_add : (m n : ℕ) (x y : S) → go next m x ≡ to y → go next (n + m) x ≡ go next n y
  unfolding go
  go_add m zero x y h = rw zero-add h
  go_add m (suc n) x y h = rw suc-add (ap (λ o. then o next) (go_add m n x y h))

  -- what is left of a longer way
  pub go_rest : (i n : ℕ) (x y z : S) → i ≤ n → go next i x ≡ to y → go next n x ≡ to z → go next (n - i) y ≡ to z
  go_rest i n x y z le h e =
      let is : (n - i) + i ≡ n = omega arith in
      sym (go_add i (n - i) x y h) ∙ ap (λ m. go next m x) is ∙ e

  -- where a way ends before n, n next states end there too
  go_ends : (i d : ℕ) (x y : S) (w : Reason) → go next i x ≡ to y → next y ≡ ends w → go next (suc (d + i)) x ≡ ends w
  unfolding go
  go_ends i zero x y w h e = rw zero-add (ap (λ o. then o next) h ∙ e)
  go_ends i (suc d) x y w h e = rw suc-add (ap (λ o. then o next) (go_ends i d x y w h e))

  pub go_stops : (i n : ℕ) (x y : S) (w : Reason) → i < n → go next i x ≡ to y → next y ≡ ends w → go next n x ≡ ends w
  go_stops i n x y w lt h e =
      let is : suc ((n - suc i) + i) ≡ n = omega arith in
      ap (λ m. go next m x) (sym is) ∙ go_ends i (n - suc i) x y w h e

  -- a state on a longer way has a next
  pub go_not_end : (i n : ℕ) (x y z : S) (w : Reason) → i < n → go next i x ≡ to y → go next n x ≡ to z → next y ≡ ends w → ⊥
  go_not_end i n x y z w lt h e stop =
      let end = go_stops i n x y w lt h stop in
      let z : ◌≡◌ {A = ℕ} 0 1 = cc in
      omega arith
