-- One text written after another.
use Rattle.std.proofs.Common.{◌≡◌, ℕ, ◌+◌, ◌-◌, ◌<◌, ◌≤◌, true, false, List, [], ◌∷◌, ◌++◌, reverse, length, get_or, take, drop, map, Bor, ℤ, pos, negsuc, nat_abs, decimal, sym, refl, ap, ◌∙◌, subst, inl, inr, append_assoc, append-nil, add-zero, arith, length-append, take-append-drop, length-take}
use lib.Seq.{paste, take-append_seam, take-append-le}
use lib.Signed.{lt_z}
use Rattle.std.specs.Fmt.{signed_decimal}
use borrow.Author.Tests.{ltb-true}
use Rattle.std.proofs.lemmas.List.Edits.{paste_all, paste-paste}
use Rattle.std.specs.List.{flat_map}
use Rattle.std.proofs.lemmas.List.{take_all, drop_more, drop_all, reverse-append, flat_map_more}
use Rattle.std.proofs.lemmas.Bool.Decides.{leb_tells}
use Rattle.writer.specs.declared.Writer.{Writer}
use Rattle.writer.specs.Written.{laid, Puts, Wrote, joined, listed}

laid_is : (d : List ℕ) (at : ℕ) (s : List ℕ) → laid d at s ≡ paste d at s (length s)
laid_is d at s = sym (paste_all d at s (length s) refl)

laid_more : (old : List ℕ) (at : ℕ) (a b : List ℕ) → at + length a ≤ length old → laid (laid old at a) (at + length a) b ≡ laid old at (a ++ b)
laid_more old at a b h =
    (λ i. laid (laid_is old at a i) (at + length a) b) ∙ laid_is (paste old at a (length a)) (at + length a) b
    ∙ paste-paste old at a b (length a) (length b) refl refl (omega arith)
    ∙ ap (λ (n : ℕ). paste old at (a ++ b) n) (sym (length-append a b)) ∙ sym (laid_is old at (a ++ b))

-- nothing is put past the end
past_end : (old : List ℕ) (at : ℕ) (bs : List ℕ) → length old ≤ at → old ≡ take (length old) (take at old ++ bs)
past_end old at bs h = sym (ap (λ l. take (length old) (l ++ bs)) (take_all at old h) ∙ take-append_seam old bs)

-- what lies below the end of what was put
below_end : (old : List ℕ) (at : ℕ) (a : List ℕ) → at + length a ≤ length old → take (at + length a) (laid old at a) ≡ take at old ++ a
below_end old at a h =
    let long : length (take at old ++ a) ≡ at + length a = omega (arith, length-append (take at old) a, length-take at old) in
    ap (take (at + length a)) (sym (append_assoc (take at old) a (drop (at + length a) old)))
    ∙ ap (λ n. take n ((take at old ++ a) ++ drop (at + length a) old)) (sym long)
    ∙ take-append_seam (take at old ++ a) (drop (at + length a) old)

puts_more : {old mid new : List ℕ} {at m n : ℕ} (a b : List ℕ) → Puts old at a mid m → Puts mid m b new n → Puts old at (a ++ b) new n
puts_more {old} {mid} {new} {at} {m} {n} a b x y =
    let long : length (a ++ b) ≡ length a + length b = length-append a b in
    record {
      size = y.size ∙ x.size;
      end = λ h. let e = x.end h in let f = y.end (omega (arith, e)) in omega (arith, e, f);
      bytes = λ h k.
          let first : m ≡ at + length a = omega (arith, x.end (omega arith)) in
          let was : mid ≡ laid old at a = x.bytes (omega arith) (omega arith) in
          y.bytes (omega arith) (omega (arith, x.size)) ∙ (λ i. laid (was i) (first i) b) ∙ laid_more old at a b (omega arith);
      cut = λ h s k.
          elim (leb_tells (at + length a) (length old)) [
            | inl p ↦
                let first : m ≡ at + length a = omega (arith, x.end h, p.1) in
                let was : mid ≡ laid old at a = x.bytes (omega (arith, p.1)) p.1 in
                y.cut (omega (arith, p.1)) (omega (arith, x.size)) (omega (arith, x.size))
                ∙ ap (λ l. take l (take m mid ++ b)) x.size
                ∙ ap (λ l. take (length old) (l ++ b)) ((λ i. take (first i) (was i)) ∙ below_end old at a p.1)
                ∙ ap (take (length old)) (append_assoc (take at old) a b)
            | inr p ↦
                let was : mid ≡ take (length old) (take at old ++ a) = x.cut h s p.1 in
                let over : length mid < m = omega (arith, x.end h, x.size, p.1) in
                let enough : length old ≤ length (take at old ++ a) = omega (arith, length-append (take at old) a, length-take at old, p.1) in
                y.cut (omega (arith, x.end h)) (omega (arith, x.size)) (omega arith)
                ∙ sym (past_end mid m b (omega arith))
                ∙ was
                ∙ sym (take-append-le (length old) (take at old ++ a) b enough)
                ∙ ap (take (length old)) (append_assoc (take at old) a b)
          ];
    }

pub wrote_more : {s t u : Writer} (a b : List ℕ) → Wrote s a t → Wrote t b u → Wrote s (a ++ b) u
wrote_more a b p q = record { wrote = puts_more a b p.wrote q.wrote; same = q.same ∙ p.same }

pub wrote_is : {s t : Writer} {a b : List ℕ} → a ≡ b → Wrote s a t → Wrote s b t
wrote_is {s} {t} e = subst (λ (l : List ℕ). Wrote s l t) e

-- where two ways meet
pub wrote_to : {s t t' : Writer} {a : List ℕ} → t ≡ t' → Wrote s a t' → Wrote s a t
wrote_to {s} {t} {t'} {a} e = subst (λ (x : Writer). Wrote s a x) (sym e)

pub wrote_from : {s s' t : Writer} {a : List ℕ} → s ≡ s' → Wrote s a t → Wrote s' a t
wrote_from {s} {s'} {t} {a} e = subst (λ (x : Writer). Wrote x a t) e

pub wrote_none : (s : Writer) → Wrote s [] s
wrote_none s = record {
  wrote = record { size = refl; end = λ h. omega arith; bytes = λ _ _. sym (rw add-zero (take-append-drop s.at s.buf.now)); cut = λ _ _ k. past_end s.buf.now s.at [] (omega arith) };
  same = refl;
}

pub signed_neg : (z y : ℤ) (m : ℕ) → y ≡ z → lt_z y (pos 0) ≡ true → m ≡ nat_abs y → 45 ∷ decimal m ≡ signed_decimal z
signed_neg z (pos n) m e h a = absurd (omega (arith, ltb-true n 0 h))
signed_neg z (negsuc n) m e h a = ap (λ k. 45 ∷ decimal k) a ∙ ap signed_decimal e

pub signed_pos : (z y : ℤ) (m : ℕ) → y ≡ z → lt_z y (pos 0) ≡ false → m ≡ nat_abs y → decimal m ≡ signed_decimal z
signed_pos z (pos n) m e h a = ap decimal a ∙ ap signed_decimal e
signed_pos z (negsuc n) m e h a = cc

-- one cell more, behind a comma
pub cell_put : {X : Type 0} (text : X → List ℕ) (ys : List (Bor X)) (y : Bor X) {s t u v : Writer} → Wrote s (flat_map (λ x. 44 ∷ text x.now) ys) t → Wrote t (44 ∷ []) u → Wrote u (text y.now) v → Wrote s (flat_map (λ x. 44 ∷ text x.now) (ys ++ (y ∷ []))) v
cell_put text ys y p q r = wrote_is (flat_map_more (λ x. 44 ∷ text x.now) [] ys y) (wrote_more _ _ p (wrote_more _ _ q r))

joined_commas : {X : Type 0} (text : X → List ℕ) (x : X) (ys : List (Bor X)) → text x ++ flat_map (λ y. 44 ∷ text y.now) ys ≡ joined text (x ∷ map (λ y. y.now) ys)
joined_commas text x [] = append-nil (text x)
joined_commas text x (y ∷ ys) = ap (λ l. text x ++ (44 ∷ l)) (joined_commas text y.now ys)

-- the top of a stack, and the cells below it from the top down
turned : {X : Type 0} (xs : List X) (x : X) → 0 < length xs → x ≡ get_or xs (length xs - 1) x → reverse xs ≡ x ∷ reverse (take (length xs - 1) xs)
turned xs x h e =
    let k = length xs - 1 in
    let last : drop k xs ≡ x ∷ [] = drop_more xs k x (omega arith) ∙ ap (λ y. y ∷ drop (k + 1) xs) (sym e) ∙ ap (λ l. x ∷ l) (drop_all (k + 1) xs (omega arith)) in
    ap reverse (sym (take-append-drop k xs) ∙ ap (λ l. take k xs ++ l) last) ∙ reverse-append (take k xs) (x ∷ [])

pub all_put : {X : Type 0} (text : X → List ℕ) (xs : List X) (x : X) (ys : List (Bor X)) {s t u : Writer} → 0 < length xs → x ≡ get_or xs (length xs - 1) x → map (λ y. y.now) ys ≡ reverse (take (length xs - 1) xs) → Wrote s (text x) t → Wrote t (flat_map (λ y. 44 ∷ text y.now) ys) u → Wrote s (listed text (reverse xs)) u
all_put text xs x ys h e f p q =
    wrote_is (joined_commas text x ys ∙ ap (λ l. listed text (x ∷ l)) f ∙ ap (listed text) (sym (turned xs x h e))) (wrote_more _ _ p q)
