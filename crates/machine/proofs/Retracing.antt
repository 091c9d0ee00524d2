-- Steps taken back one by one.
use Rattle.std.proofs.Common.{◌≡◌, ℕ, suc, ◌+◌, ◌-◌, ◌<◌, ◌≤◌, Ok, Err, Result, sym, ap, ◌∙◌, arith}
use Rattle.machine.specs.declared.reasons.Reason.{Reason}
use Rattle.machine.specs.Steps.{Next, to, go, Laws, Took}
use Rattle.machine.specs.Lawful.{go_none, go_split}

module _ {S : Type 0} {next : S → Next S} {turned : S → S} (laws : Laws next turned) where
  -- one step of the turned machine takes one step back
  pub retrace_more : {U : Type 0} (n i : ℕ) (x s t : S) (r : Result U Reason) → i < n → go next (n - i) x ≡ to (turned s) → Took next s t r → go next (n - (i + 1)) x ≡ to (turned t)
  retrace_more {U} n i x s t r lt h e =
      let is : n - i ≡ suc (n - (i + 1)) = omega arith in
      let p = go_split next (n - (i + 1)) x (turned s) (ap (λ m. go next m x) (sym is) ∙ h) in
      let q : next s ≡ to (turned p.0) = ap next (sym (laws.twice s)) ∙ laws.back p.0 (turned s) p.2 in
      by p.0 p.1 q r e
    where
      by : (y : S) → go next (n - (i + 1)) x ≡ to y → next s ≡ to (turned y) → (r : Result U Reason) → Took next s t r → go next (n - (i + 1)) x ≡ to (turned t)
      by y p q (Ok u) e =
          let same : t ≡ turned y = cc in
          p ∙ ap to (sym (ap turned same ∙ laws.twice y))
      by y p q (Err w) e = absurd (let z : ◌≡◌ {A = ℕ} 0 1 = cc (q, e.0) in omega arith)

  -- the whole way back ends where it began
  pub retraced : (n i : ℕ) (x e s t u : S) → n ≤ i → s ≡ turned e → (go next n x ≡ to (turned s) → go next (n - i) x ≡ to (turned t)) → u ≡ turned t → go next n x ≡ to e → u ≡ x
  retraced n i x e s t u le es inv eu h =
      let none : n - i ≡ 0 = omega arith in
      let came = inv (h ∙ ap to (sym (ap turned es ∙ laws.twice e))) in
      let zero_steps : go next 0 x ≡ to (turned t) = ap (λ m. go next m x) (sym none) ∙ came in
      let start = go_none next x in
      cc
