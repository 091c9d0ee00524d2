-- The signs of a text are its one division.
use Rattle.std.proofs.Common.{◌≡◌, ℕ, suc, ◌+◌, ◌-◌, ◌≤◌, Bool, true, false, List, [], ◌∷◌, ◌++◌, length, sym, refl, ap, ◌∙◌, subst, arith, length-append}
use Rattle.std.proofs.lemmas.Bool.Decides.{nat_tests}
use Rattle.std.proofs.lemmas.Bool.{both_ways}
use Rattle.syntax.specs.Signs.{Sign, word, digits, mark, Placed, blank, letter, digit, begins, with_letter, with_digit, with_byte, lex, signs_of}
use Rattle.grammar.specs.Dividing.{Run, Divided, at_end, at_blank, at_word, at_digits, at_mark, DividedExactly}

-- the kinds of bytes exclude each other
blank-letter : (b : ℕ) → blank b ≡ true → letter b ≡ false
blank-letter b h = grind (arith, nat_tests)

blank-digit : (b : ℕ) → blank b ≡ true → digit b ≡ false
blank-digit b h = grind (arith, nat_tests)

letter-digit : (b : ℕ) → letter b ≡ true → digit b ≡ false
letter-digit b h = grind (arith, nat_tests)

letter-blank : (b : ℕ) → letter b ≡ true → blank b ≡ false
letter-blank b h = grind (arith, nat_tests)

digit-blank : (b : ℕ) → digit b ≡ true → blank b ≡ false
digit-blank b h = grind (arith, nat_tests)

digit-letter : (b : ℕ) → digit b ≡ true → letter b ≡ false
digit-letter b h = grind (arith, nat_tests)

run_other : (kind other : ℕ → Bool) (w s : List ℕ) → ((b : ℕ) → kind b ≡ true → other b ≡ false) → begins kind w ≡ true → begins other (w ++ s) ≡ false
run_other kind other [] s f h = let z : ◌≡◌ {A = ℕ} 0 1 = cc in absurd (omega arith)
run_other kind other (b ∷ w) s f h = f b h

-- a text divided, and a run at its front
record Front (kind : ℕ → Bool) (make : List ℕ → Sign) (p : ℕ) (s : List ℕ) (signs : List Placed) : Type 0 where
  pub run : List ℕ
  pub rest : List ℕ
  pub more : List Placed
  pub is : s ≡ run ++ rest
  pub first : signs ≡ (p, make run) ∷ more
  pub runs : Run kind run rest
  pub divided : Divided (p + length run) rest more

-- what letters and digits have in common: how a sign is made of a run, and how a byte joins the run after it
record Kind (kind : ℕ → Bool) (make : List ℕ → Sign) (extend : ℕ → ℕ → Bool → List Placed → List Placed) : Type 0 where
  pub joins : (p b q : ℕ) (w : List ℕ) (signs : List Placed) → extend p b true ((q, make w) ∷ signs) ≡ (p, make (b ∷ w)) ∷ signs
  pub starts : (p b : ℕ) (signs : List Placed) → extend p b false signs ≡ (p, make (b ∷ [])) ∷ signs
  pub takes : (p b : ℕ) (s : List ℕ) (signs : List Placed) → kind b ≡ true → with_byte p b s signs ≡ extend p b (begins kind s) signs
  pub divides : (p : ℕ) (w s : List ℕ) (signs : List Placed) → Run kind w s → Divided (p + length w) s signs → Divided p (w ++ s) ((p, make w) ∷ signs)
  pub fronts : (p : ℕ) (s : List ℕ) (signs : List Placed) → begins kind s ≡ true → Divided p s signs → Front kind make p s signs

starts_word : (p b : ℕ) (signs : List Placed) → with_letter p b false signs ≡ (p, word (b ∷ [])) ∷ signs
starts_word p b [] = refl
starts_word p b ((q, word w) ∷ s) = refl
starts_word p b ((q, digits w) ∷ s) = refl
starts_word p b ((q, mark c) ∷ s) = refl

starts_digits : (p b : ℕ) (signs : List Placed) → with_digit p b false signs ≡ (p, digits (b ∷ [])) ∷ signs
starts_digits p b [] = refl
starts_digits p b ((q, word w) ∷ s) = refl
starts_digits p b ((q, digits w) ∷ s) = refl
starts_digits p b ((q, mark c) ∷ s) = refl

fronts_word : {p : ℕ} {s : List ℕ} {signs : List Placed} → Divided p s signs → begins letter s ≡ true → Front letter word p s signs
fronts_word at_end h = let z : ◌≡◌ {A = ℕ} 0 1 = cc in absurd (omega arith)
fronts_word (at_blank {b = b} e d) h = absurd (both_ways (letter b) (blank-letter b e) h)
fronts_word (at_word w {s = s} {signs = signs} r d) h = record { run = w; rest = s; more = signs; is = refl; first = refl; runs = r; divided = d }
fronts_word (at_digits w {s = s} r d) h = absurd (both_ways (begins letter (w ++ s)) (run_other digit letter w s digit-letter r.some) h)
fronts_word (at_mark {b = b} e f g d) h = absurd (both_ways (letter b) f h)

fronts_digits : {p : ℕ} {s : List ℕ} {signs : List Placed} → Divided p s signs → begins digit s ≡ true → Front digit digits p s signs
fronts_digits at_end h = let z : ◌≡◌ {A = ℕ} 0 1 = cc in absurd (omega arith)
fronts_digits (at_blank {b = b} e d) h = absurd (both_ways (digit b) (blank-digit b e) h)
fronts_digits (at_word w {s = s} r d) h = absurd (both_ways (begins digit (w ++ s)) (run_other letter digit w s letter-digit r.some) h)
fronts_digits (at_digits w {s = s} {signs = signs} r d) h = record { run = w; rest = s; more = signs; is = refl; first = refl; runs = r; divided = d }
fronts_digits (at_mark {b = b} e f g d) h = absurd (both_ways (digit b) g h)

letters : Kind letter word with_letter
letters = record {
  joins = λ p b q w signs. refl;
  starts = starts_word;
  takes = λ p b s signs h. rw (letter-blank b h, h) refl;
  divides = λ p w s signs r d. at_word w r d;
  fronts = λ p s signs h d. fronts_word d h;
}

numbers : Kind digit digits with_digit
numbers = record {
  joins = λ p b q w signs. refl;
  starts = starts_digits;
  takes = λ p b s signs h. rw (digit-blank b h, digit-letter b h, h) refl;
  divides = λ p w s signs r d. at_digits w r d;
  fronts = λ p s signs h d. fronts_digits d h;
}

module _ (kind : ℕ → Bool) (make : List ℕ → Sign) (extend : ℕ → ℕ → Bool → List Placed → List Placed) (k : Kind kind make extend) where
  -- a byte of the kind before a divided text
  grows : (p b : ℕ) (s : List ℕ) (signs : List Placed) → kind b ≡ true → Divided (suc p) s signs → Divided p (b ∷ s) (with_byte p b s signs)
  grows p b s signs h d = rw (k.takes p b s signs h) (by (begins kind s) refl)
    where
      by : (j : Bool) → begins kind s ≡ j → Divided p (b ∷ s) (extend p b j signs)
      by false e = rw (k.starts p b signs) (k.divides p (b ∷ []) s signs (record { some = h; all = (h, tt); longest = e }) (subst (λ n. Divided n s signs) (let w : suc p ≡ p + 1 = omega arith in w) d))
      by true e =
          let f = k.fronts (suc p) s signs e d in
          let n : suc p + length f.run ≡ p + suc (length f.run) = omega arith in
          let x = k.divides p (b ∷ f.run) f.rest f.more (record { some = h; all = (h, f.runs.all); longest = f.runs.longest }) (subst (λ m. Divided m f.rest f.more) n f.divided) in
          let y : extend p b true signs ≡ (p, make (b ∷ f.run)) ∷ f.more = ap (extend p b true) f.first ∙ k.joins p b (suc p) f.run f.more in
          subst (λ z. Divided p (b ∷ z) (extend p b true signs)) (sym f.is) (subst (Divided p (b ∷ (f.run ++ f.rest))) (sym y) x)

  -- a run is one sign
  runs : (end : ℕ) (w s : List ℕ) → Run kind w s → lex end (w ++ s) ≡ (end - length (w ++ s), make w) ∷ lex end s
  unfolding lex
  runs end [] s r = let h = r.some in let z : ◌≡◌ {A = ℕ} 0 1 = cc in absurd (omega arith)
  runs end (b ∷ []) s r = k.takes (end - length (b ∷ s)) b s (lex end s) r.some ∙ ap (λ j. extend (end - length (b ∷ s)) b j (lex end s)) r.longest ∙ k.starts (end - length (b ∷ s)) b (lex end s)
  runs end (b ∷ c ∷ w) s r =
      let p = end - length (b ∷ c ∷ (w ++ s)) in
      let i = runs end (c ∷ w) s (record { some = r.all.1.0; all = r.all.1; longest = r.longest }) in
      k.takes p b (c ∷ (w ++ s)) (lex end (c ∷ (w ++ s))) r.some ∙ ap (λ j. extend p b j (lex end (c ∷ (w ++ s)))) r.all.1.0 ∙ ap (extend p b true) i ∙ k.joins p b (end - length (c ∷ (w ++ s))) (c ∷ w) (lex end s)

divided_byte : (p b : ℕ) (s : List ℕ) (signs : List Placed) → Divided (suc p) s signs → Divided p (b ∷ s) (with_byte p b s signs)
divided_byte p b s signs d = by (blank b) refl (letter b) refl (digit b) refl
  where
    by : (x : Bool) → blank b ≡ x → (y : Bool) → letter b ≡ y → (z : Bool) → digit b ≡ z → Divided p (b ∷ s) (with_byte p b s signs)
    by true e y f z g = rw e (at_blank e d)
    by false e true f z g = grows letter word with_letter letters p b s signs f d
    by false e false f true g = grows digit digits with_digit numbers p b s signs g d
    by false e false f false g = rw (e, f, g) (at_mark e f g d)

divides : (end : ℕ) (s : List ℕ) → length s ≤ end → Divided (end - length s) s (lex end s)
unfolding lex
divides end [] h = at_end
divides end (b ∷ s) h =
    let p = end - length (b ∷ s) in
    divided_byte p b s (lex end s) (subst (λ n. Divided n s (lex end s)) (let e : end - length s ≡ suc p = omega arith in e) (divides end s (omega arith)))

one_division : {p : ℕ} {s : List ℕ} {signs : List Placed} → Divided p s signs → (end : ℕ) → p + length s ≡ end → lex end s ≡ signs
unfolding lex
one_division at_end end h = refl
one_division (at_blank {b = b} e d) end h = rw e (one_division d end (omega arith))
one_division {p} (at_word w {s = s} r d) end h =
    let n = length-append w s in
    let i = one_division d end (omega arith) in
    let q : end - length (w ++ s) ≡ p = omega arith in
    runs letter word with_letter letters end w s r ∙ ap (λ m. (m, word w) ∷ lex end s) q ∙ ap (λ z. (p, word w) ∷ z) i
one_division {p} (at_digits w {s = s} r d) end h =
    let n = length-append w s in
    let i = one_division d end (omega arith) in
    let q : end - length (w ++ s) ≡ p = omega arith in
    runs digit digits with_digit numbers end w s r ∙ ap (λ m. (m, digits w) ∷ lex end s) q ∙ ap (λ z. (p, digits w) ∷ z) i
one_division {p} (at_mark {b = b} {s = s} e f g d) end h =
    let i = one_division d end (omega arith) in
    let q : end - length (b ∷ s) ≡ p = omega arith in
    rw (e, f, g) (ap (λ m. (m, mark b) ∷ lex end s) q ∙ ap (λ z. (p, mark b) ∷ z) i)

pub exactly : DividedExactly
exactly text signs = (
  λ h. subst (Divided 0 text) h (subst (λ n. Divided n text (signs_of text)) (let e : length text - length text ≡ 0 = omega arith in e) (divides (length text) text (omega arith))),
  λ d. one_division d (length text) (omega arith),
)
