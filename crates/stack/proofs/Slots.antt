-- The cells of one shelf, and what a write to one shelf's cells leaves of the others.
use Rattle.std.proofs.Common.{◌≡◌, ℕ, ◌+◌, ◌-◌, ◌*◌, ◌<◌, ◌≤◌, true, false, cond, leb, List, [], length, take, drop, sym, ap, ◌∙◌, inl, inr, arith}
use borrow.Rule.Slice.PartMut.{put_mid}
use Rattle.std.specs.List.{between}
use Rattle.std.proofs.lemmas.Bool.Decides.{nat_tests, leb_tells}
use Rattle.std.proofs.lemmas.List.{length-take, length-drop}
use Rattle.std.proofs.lemmas.Slice.{between_is, between-put_mid, drop-put_mid, take-put_mid_below}
use Rattle.stack.specs.Cells.{slot_room}
use Rattle.stack.specs.Shelving.{slot}

leb-true : (a b : ℕ) → a ≤ b → leb a b ≡ true
leb-true a b h = grind (arith, nat_tests)

leb-false : (a b : ℕ) → b < a → leb a b ≡ false
leb-false a b h = grind (arith, nat_tests)

pub room_in : (n k : ℕ) → 64 * k + 64 ≤ n → slot_room n k ≡ 64
room_in n k h = ap (λ b. cond b 64 0) (leb-true (64 * k + 64) n h)

pub room_out : (n k : ℕ) → n < 64 * k + 64 → slot_room n k ≡ 0
room_out n k h = ap (λ b. cond b 64 0) (leb-false (64 * k + 64) n h)

pub slot_in : {X : Type 0} (k : ℕ) (xs : List X) → 64 * k + 64 ≤ length xs → slot k xs ≡ between (64 * k) (64 * k + 64) xs
slot_in k xs h =
    let w : 64 ≡ 64 * k + 64 - 64 * k = omega arith in
    ap (λ b. cond b (take 64 (drop (64 * k) xs)) []) (leb-true (64 * k + 64) (length xs) h)
    ∙ ap (λ n. take n (drop (64 * k) xs)) w

pub slot_out : {X : Type 0} (k : ℕ) (xs : List X) → length xs < 64 * k + 64 → slot k xs ≡ []
slot_out k xs h = ap (λ b. cond b (take 64 (drop (64 * k) xs)) []) (leb-false (64 * k + 64) (length xs) h)

pub slot-length : {X : Type 0} (k : ℕ) (xs : List X) → 64 * k + 64 ≤ length xs → length (between (64 * k) (64 * k + 64) xs) ≡ 64
slot-length k xs h = simp (length-take, length-drop) (omega arith)

-- the shelf whose cells were written
pub slot_same : {X : Type 0} (k : ℕ) (xs ys : List X) → 64 * k + 64 ≤ length xs → length ys ≡ 64 → length (put_mid (64 * k) (64 * k + 64 - 64 * k) xs ys) ≡ length xs → slot k (put_mid (64 * k) (64 * k + 64 - 64 * k) xs ys) ≡ ys
slot_same k xs ys h e l =
    let zs = put_mid (64 * k) (64 * k + 64 - 64 * k) xs ys in
    let m : 64 * k + 64 ≤ length zs = omega arith in
    slot_in k zs m ∙ between-put_mid (64 * k) (64 * k + 64 - 64 * k) xs ys (64 * k + 64) (omega arith) (omega arith)

between_other : {X : Type 0} (i k : ℕ) (xs ys : List X) → (i ≡ k → ⊥) → 64 * k + 64 ≤ length xs → length ys ≡ 64 → between (64 * i) (64 * i + 64) (put_mid (64 * k) (64 * k + 64 - 64 * k) xs ys) ≡ between (64 * i) (64 * i + 64) xs
between_other i k xs ys ne h e =
    elim (leb_tells i k) [
      | inl p ↦
          let zs = put_mid (64 * k) (64 * k + 64 - 64 * k) xs ys in
          let lt : 64 * i + 64 ≤ 64 * k = omega (arith, p.1) in
          between_is zs (64 * i) (64 * i + 64)
          ∙ ap (drop (64 * i)) (take-put_mid_below (64 * k) (64 * k + 64 - 64 * k) xs ys (64 * i + 64) lt (omega arith))
          ∙ sym (between_is xs (64 * i) (64 * i + 64))
      | inr p ↦
          let gt : 64 * k + (64 * k + 64 - 64 * k) ≤ 64 * i = omega (arith, p.1) in
          ap (take (64 * i + 64 - 64 * i)) (drop-put_mid (64 * k) (64 * k + 64 - 64 * k) xs ys (64 * i) gt (omega arith) (omega arith))
    ]

-- another shelf
pub slot_other : {X : Type 0} (i k : ℕ) (xs ys : List X) → (i ≡ k → ⊥) → 64 * k + 64 ≤ length xs → length ys ≡ 64 → length (put_mid (64 * k) (64 * k + 64 - 64 * k) xs ys) ≡ length xs → slot i (put_mid (64 * k) (64 * k + 64 - 64 * k) xs ys) ≡ slot i xs
slot_other i k xs ys ne h e l =
    let zs = put_mid (64 * k) (64 * k + 64 - 64 * k) xs ys in
    elim (leb_tells (64 * i + 64) (length xs)) [
      | inl p ↦
          let m : 64 * i + 64 ≤ length zs = omega (arith, l, p.1) in
          slot_in i zs m ∙ between_other i k xs ys ne h e ∙ sym (slot_in i xs p.1)
      | inr p ↦
          let m : length zs < 64 * i + 64 = omega (arith, l, p.1) in
          slot_out i zs m ∙ sym (slot_out i xs p.1)
    ]
