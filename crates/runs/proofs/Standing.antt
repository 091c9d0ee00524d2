-- Where a machine stands from another state: distances add up, and turn about.
use Rattle.std.proofs.Common.{◌≡◌, ℕ, suc, ◌+◌, ◌-◌, ◌≤◌, ℤ, pos, negsuc, ◌+ℤ◌, ◌-ℤ◌, neg_ℤ, sym, refl, ap, ◌∙◌, arith}
use Rattle.std.proofs.lemmas.Int.{ints}
use Rattle.machine.specs.Steps.{Next, to, go, Laws}
use Rattle.runs.specs.Runs.{Stands}
use Rattle.machine.specs.Lawful.{go_none, go_back}
use Rattle.machine.proofs.Ways.{go_add, go_rest}
use Rattle.machine.proofs.Going.{turned_once}

module _ {S : Type 0} (next : S → Next S) where
  pub stands_here : (x : S) (d : ℤ) → d ≡ pos 0 → Stands next x d x
  stands_here x d z = record {
    ahead = λ n e. let is : n ≡ 0 = omega (arith, ints) in ap (λ m. go next m x) is ∙ go_none next x;
    behind = λ n e. let is : n ≡ 0 = omega (arith, ints) in ap (λ m. go next m x) is ∙ go_none next x;
  }

  pub stands_swap : {x y : S} {d e : ℤ} → e ≡ neg_ℤ d → Stands next x d y → Stands next y e x
  stands_swap {x} {y} {d} {e} is s = record {
    ahead = λ n h. s.behind n (omega (arith, ints));
    behind = λ n h. s.ahead n (omega (arith, ints));
  }

  stands_ahead : (d : ℤ) (g n : ℕ) (x y z : S) → Stands next x d y → go next g y ≡ to z → d +ℤ pos g ≡ pos n → go next n x ≡ to z
  stands_ahead (pos m) g n x y z s h e =
      let is : n ≡ g + m = omega (arith, ints) in
      ap (λ k. go next k x) is ∙ go_add next m g x y (s.ahead m refl) ∙ h
  stands_ahead (negsuc m) g n x y z s h e =
      let is : n ≡ g - suc m = omega (arith, ints) in
      let le : suc m ≤ g = omega (arith, ints) in
      ap (λ k. go next k x) is ∙ go_rest next (suc m) g y x z le (s.behind (suc m) refl) h

  -- g next states on
  pub stands_on : {x y z : S} {d e : ℤ} (g : ℕ) → e ≡ d +ℤ pos g → Stands next x d y → go next g y ≡ to z → Stands next x e z
  stands_on {x} {y} {z} {d} {e} g is s h = record {
    ahead = λ n h'. stands_ahead d g n x y z s h (sym is ∙ h');
    behind = λ n h'.
        let le : g ≤ n + g = omega arith in
        let same : (n + g) - g ≡ n = omega arith in
        let long : go next (n + g) y ≡ to x = s.behind (n + g) (omega (arith, ints)) in
        ap (λ k. go next k z) (sym same) ∙ go_rest next g (n + g) y z x le h long;
  }

module _ {S : Type 0} {next : S → Next S} {turned : S → S} (laws : Laws next turned) where
  stands_turned : {x y : S} {d : ℤ} → Stands next x d y → Stands next (turned y) d (turned x)
  stands_turned {x} {y} s = record {
    ahead = λ n h. go_back laws n x y (s.ahead n h);
    behind = λ n h. go_back laws n y x (s.behind n h);
  }

  -- g next states back
  pub stands_back : {x y z : S} {d e : ℤ} (g : ℕ) → e ≡ d -ℤ pos g → Stands next x d y → go next g z ≡ to y → Stands next x e z
  stands_back {x} {y} {z} {d} {e} g is s h =
      let mirror = stands_turned (stands_swap next {e = neg_ℤ d} refl s) in
      let on = stands_on next {e = neg_ℤ d +ℤ pos g} g refl mirror (go_back laws g z y h) in
      let home = stands_turned on in
      stands_swap next (omega (arith, ints)) (rw (laws.twice z, laws.twice x) at home)

  pub stands_plus : (e : ℤ) {x y z : S} {d f : ℤ} → f ≡ d +ℤ e → Stands next x d y → Stands next y e z → Stands next x f z
  stands_plus (pos g) is s t = stands_on next g is s (t.ahead g refl)
  stands_plus (negsuc g) is s t = stands_back (suc g) (omega (arith, ints)) s (t.behind (suc g) refl)

  -- only one state stands so far off
  pub stands_once : (d : ℤ) (x y z : S) → Stands next x d y → Stands next x d z → y ≡ z
  stands_once (pos n) x y z s t =
      let a = s.ahead n refl in
      let b = t.ahead n refl in
      cc
  stands_once (negsuc n) x y z s t =
      let a = go_back laws (suc n) y x (s.behind (suc n) refl) in
      let b = go_back laws (suc n) z x (t.behind (suc n) refl) in
      turned_once laws y z (cc)
