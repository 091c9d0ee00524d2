-- Proofs, not definitions: the addition machine is lawful, and so is a stride over a lawful machine.
-- They stand here since a machine hands its laws over among its ghost members.
use Rattle.std.specs.Prelude.{◌≡◌, ℕ, zero, suc, ◌+◌, ◌-◌, Bool, true, false, cond, leb, ◌==◌, nat_eq, nat_le}
use Rattle.std.proofs.Math.Path.{refl, ap}
use Rattle.std.proofs.Common.{sym, ◌∙◌, arith, leb-true, leb-false, ne_eqb, le-leb}
use Rattle.std.proofs.lemmas.Bool.{eqb-false, lt-leb}
use Rattle.machine.specs.declared.reasons.Reason.TheVariants.{Home, Overflow}
use Rattle.machine.specs.declared.addition.Direction.{Direction}
use Rattle.machine.specs.declared.addition.Direction.TheVariants.{Out, Home as Homeward}
use Rattle.machine.specs.Steps.{Next, to, ends, then, go, Laws}
use Rattle.machine.specs.Additions.{Standing, standing, passing, onward, opposite, mirrored}
use Rattle.machine.specs.Strides.{Strided, strided, stride, stride_turned}

-- n next states

then_to : {S : Type 0} (o : Next S) → o ≡ then o (λ y. to y)
then_to (to y) = refl
then_to (ends w) = refl

then_then : {S T U : Type 0} (o : Next S) (f : S → Next T) (h : T → Next U) → then (then o f) h ≡ then o (λ y. then (f y) h)
then_then (to y) f h = refl
then_then (ends w) f h = refl

module _ {S : Type 0} (next : S → Next S) where
  pub go_none : (x : S) → go next 0 x ≡ to x
  unfolding go
  go_none x = refl

  -- the first taken first
  pub go_first : (n : ℕ) (x : S) → go next (suc n) x ≡ then (next x) (go next n)
  unfolding go
  go_first zero x = then_to (next x)
  go_first (suc n) x = ap (λ o. then o next) (go_first n x) ∙ then_then (next x) (go next n) next

  -- the last taken last
  pub go_split : (n : ℕ) (x z : S) → go next (suc n) x ≡ to z → (y : S) × (go next n x ≡ to y) × (next y ≡ to z)
  unfolding go
  go_split n x z h = split (go next n x) refl h
    where
      split : (o : Next S) → go next n x ≡ o → then o next ≡ to z → (y : S) × (go next n x ≡ to y) × (next y ≡ to z)
      split (to y) e h = (y, e, h)
      split (ends w) e h = absurd (let z : ◌≡◌ {A = ℕ} 0 1 = cc in omega arith)

-- what n next states lead to leads back, turned, by n next states
pub go_back : {S : Type 0} {next : S → Next S} {turned : S → S} → Laws next turned → (n : ℕ) (x y : S) → go next n x ≡ to y → go next n (turned y) ≡ to (turned x)
unfolding go
go_back laws zero x y h = cc
go_back {next = next} {turned = turned} laws (suc n) x z h =
    let s = go_split next n x z h in
    go_first next n (turned z) ∙ ap (λ o. then o (go next n)) (laws.back s.0 z s.2) ∙ go_back laws n x s.0 s.1

-- a stride

stride_back : {S : Type 0} {next : S → Next S} {turned : S → S} → Laws next turned → (k : ℕ) (x : S) (y : Strided S) (o : Next S) → go next k x ≡ o → then o (λ z. to (strided k z)) ≡ to y → stride next (stride_turned turned y) ≡ to (strided k (turned x))
stride_back laws k x y (to z) h e =
    let same : y ≡ strided k z = cc in
    rw same (ap (λ o. then o (λ u. to (strided k u))) (go_back laws k x z h))
stride_back laws k x y (ends w) h e = absurd (let z : ◌≡◌ {A = ℕ} 0 1 = cc in omega arith)

pub stride_laws : {S : Type 0} {next : S → Next S} {turned : S → S} → Laws next turned → Laws (stride next) (stride_turned turned)
stride_laws {next = next} laws = record {
  twice = λ x. ap (strided x.k) (laws.twice x.below);
  back = λ x y. stride_back laws x.k x.below y (go next x.k x.below) refl;
}

-- the addition machine

-- a giver and a taker as the machine holds them, by direction
abbrev pub from_pair : Direction → ℕ × ℕ → Standing
from_pair Out p = standing p.0 p.1 Out
from_pair Homeward p = standing p.1 p.0 Homeward

pub on_pair : (d : Direction) (p : ℕ × ℕ) → onward (from_pair d p) ≡ then (passing p) (λ q. to (from_pair d q))
on_pair Out p = refl
on_pair Homeward p = refl

-- what was passed may be passed back
passed_back : (m n k l : ℕ) → passing (m, n) ≡ to (k, l) → passing (l, k) ≡ to (n, m)
passed_back m n k l h = by (m == 0) refl (nat_le 4294967295 n) refl (nat_le m 4294967295) refl h
  where
    by : (x : Bool) → (m == 0) ≡ x → (y : Bool) → nat_le 4294967295 n ≡ y → (z : Bool) → nat_le m 4294967295 ≡ z
        → cond {A = Next (ℕ × ℕ)} x (ends Home) (cond y (ends Overflow) (cond z (to (m - 1, n + 1)) (ends Overflow))) ≡ to (k, l) → passing (l, k) ≡ to (n, m)
    by true ex y ey z ez h = absurd (let z : ◌≡◌ {A = ℕ} 0 1 = cc in omega arith)
    by false ex true ey z ez h = absurd (let z : ◌≡◌ {A = ℕ} 0 1 = cc in omega arith)
    by false ex false ey false ez h = absurd (let z : ◌≡◌ {A = ℕ} 0 1 = cc in omega arith)
    by false ex false ey true ez h =
        let e : ◌≡◌ {A = ℕ × ℕ} (k, l) (m - 1, n + 1) = cc in
        let ek : k ≡ m - 1 = ap (λ (p : ℕ × ℕ). p.0) e in
        let el : l ≡ n + 1 = ap (λ (p : ℕ × ℕ). p.1) e in
        let some : m ≡ 0 → ⊥ = eqb-false m 0 ex in
        let room = leb-false 4294967295 n ey in
        let few = leb-true m 4294967295 ez in
        let a : nat_eq l 0 ≡ false = ne_eqb l 0 (omega arith) in
        let b : leb 4294967295 k ≡ false = lt-leb 4294967295 k (omega arith) in
        let c : leb l 4294967295 ≡ true = le-leb l 4294967295 (omega arith) in
        let p : l - 1 ≡ n = omega arith in
        let q : k + 1 ≡ m = omega arith in
        rw (a, b, c, p, q) refl

opposite_twice : (d : Direction) → opposite (opposite d) ≡ d
opposite_twice Out = refl
opposite_twice Homeward = refl

mirror_pair : (d : Direction) (m n : ℕ) → mirrored (from_pair d (m, n)) ≡ from_pair (opposite d) (n, m)
mirror_pair Out m n = refl
mirror_pair Homeward m n = refl

back_pair : (d : Direction) (m n : ℕ) (y : Standing) (o : Next (ℕ × ℕ)) → passing (m, n) ≡ o → then o (λ q. to (from_pair d q)) ≡ to y → onward (mirrored y) ≡ to (mirrored (from_pair d (m, n)))
back_pair d m n y (to q) e h =
    let same : y ≡ from_pair d (q.0, q.1) = cc in
    let way = passed_back m n q.0 q.1 e in
    ap (λ z. onward (mirrored z)) same ∙ ap onward (mirror_pair d q.0 q.1) ∙ on_pair (opposite d) (q.1, q.0)
    ∙ ap (λ o. then o (λ z. to (from_pair (opposite d) z))) way ∙ ap to (sym (mirror_pair d m n))
back_pair d m n y (ends w) e h = absurd (let z : ◌≡◌ {A = ℕ} 0 1 = cc in omega arith)

back_by : (d : Direction) (a b : ℕ) (y : Standing) → onward (standing a b d) ≡ to y → onward (mirrored y) ≡ to (mirrored (standing a b d))
back_by Out a b y h = back_pair Out a b y (passing (a, b)) refl h
back_by Homeward a b y h = back_pair Homeward b a y (passing (b, a)) refl h

pub addition_laws : Laws onward mirrored
addition_laws = record {
  twice = λ x. ap (standing x.a x.b) (opposite_twice x.direction);
  back = λ x y h. back_by x.direction x.a x.b y h;
}
