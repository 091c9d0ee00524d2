-- A proof, not a definition: the ladder is lawful.
use Rattle.std.specs.Prelude.{◌≡◌, ℕ, ◌+◌, ◌-◌, Bool, true, false, cond, not, ltb, leb, ◌==◌, nat_eq, nat_le, nat_lt, refl}
use Rattle.std.proofs.Common.{ap, arith, ltb-true, leb-true, lt-ltb, ne_eqb, le-leb}
use Rattle.std.proofs.lemmas.Bool.{eqb-false}
use Rattle.machine.specs.declared.reasons.Reason.TheVariants.{Home, NoRow}
use Rattle.machine.specs.Steps.{to, ends, Laws}
use Rattle.ladder.specs.Rungs.{Rung, rung, climb_by, climb, other_way}

not_twice : (b : Bool) → not (not b) ≡ b
not_twice true = refl
not_twice false = refl

-- what was climbed up may be climbed down
down_again : (n : ℕ) (y : Rung) (t : Bool) → nat_lt n 1000 ≡ t → cond t (to (rung (n + 1) true)) (ends NoRow) ≡ to y → climb (other_way y) ≡ to (rung n false)
down_again n y true e h =
    let same : y ≡ rung (n + 1) true = cc in
    let low = ltb-true n 1000 e in
    let a : nat_eq (n + 1) 0 ≡ false = ne_eqb (n + 1) 0 (omega arith) in
    let b : leb (n + 1) 1000 ≡ true = le-leb (n + 1) 1000 (omega arith) in
    let c : n + 1 - 1 ≡ n = omega arith in
    rw (same, a, b, c) refl
down_again n y false e h = absurd (let z : ◌≡◌ {A = ℕ} 0 1 = cc in omega arith)

-- and the other way round
up_again : (n : ℕ) (y : Rung) (s t : Bool) → (n == 0) ≡ s → nat_le n 1000 ≡ t → cond s (ends Home) (cond t (to (rung (n - 1) false)) (ends NoRow)) ≡ to y → climb (other_way y) ≡ to (rung n true)
up_again n y false true e f h =
    let same : y ≡ rung (n - 1) false = cc in
    let some : n ≡ 0 → ⊥ = eqb-false n 0 e in
    let low = leb-true n 1000 f in
    let a : ltb (n - 1) 1000 ≡ true = lt-ltb (n - 1) 1000 (omega arith) in
    let b : n - 1 + 1 ≡ n = omega arith in
    rw (same, a, b) refl
up_again n y true t e f h = absurd (let z : ◌≡◌ {A = ℕ} 0 1 = cc in omega arith)
up_again n y false false e f h = absurd (let z : ◌≡◌ {A = ℕ} 0 1 = cc in omega arith)

again : (up : Bool) (n : ℕ) (y : Rung) → climb_by up n ≡ to y → climb (other_way y) ≡ to (rung n (not up))
again true n y h = down_again n y (nat_lt n 1000) refl h
again false n y h = up_again n y (n == 0) (nat_le n 1000) refl refl h

pub ladder_laws : Laws climb other_way
ladder_laws = record {
  twice = λ x. ap (rung x.height) (not_twice x.upward);
  back = λ x y h. again x.upward x.height y h;
}
