-- What the signs of a text are, once its first bytes are known.
use Rattle.std.proofs.Common.{◌≡◌, ℕ, suc, ◌-◌, ◌≤◌, Bool, true, false, cond, List, [], ◌∷◌, length, get_or, take, drop, sym, refl, ap, ◌∙◌, subst, arith, take_all}
use Rattle.std.proofs.lemmas.Bool.Decides.{nat_tests}
use Rattle.syntax.specs.Signs.{Sign, word, digits, mark, Placed, blank, letter, digit, begins, with_letter, with_digit, with_byte, lex}
use Rattle.syntax.specs.Steps.{skipped, run}

pub front : (s : List ℕ) → 1 ≤ length s → s ≡ get_or s 0 0 ∷ take (length s - 1) (drop 1 s)
front [] h = absurd (omega arith)
front (b ∷ s) h = ap (λ r. b ∷ r) (sym (take_all (length (b ∷ s) - 1) s (omega arith)))

pub front_at : (s : List ℕ) (b : ℕ) → 1 ≤ length s → get_or s 0 0 ≡ b → b ∷ take (length s - 1) (drop 1 s) ≡ s
front_at s b h e = ap (λ v. v ∷ take (length s - 1) (drop 1 s)) (sym e) ∙ sym (front s h)

pub skip_off : (s : List ℕ) → (1 ≤ length s → blank (get_or s 0 0) ≡ false) → skipped s ≡ s
skip_off [] e = refl
skip_off (b ∷ s) e = ap (λ v. cond v (skipped s) (b ∷ s)) (e (omega arith))

-- blanks are no signs
pub lex-skipped : (end : ℕ) (s : List ℕ) → lex end (skipped s) ≡ lex end s
unfolding lex
lex-skipped end [] = refl
lex-skipped end (b ∷ s) = go (blank b) refl (lex-skipped end s)
  where
    go : (v : Bool) → blank b ≡ v → lex end (skipped s) ≡ lex end s → lex end (cond (blank b) (skipped s) (b ∷ s)) ≡ with_byte (end - length (b ∷ s)) b s (lex end s)
    go true e ih = rw e ih
    go false e ih = rw e (simp e)

-- the front of what is skipped is no blank
pub skipped_starts : (s u : List ℕ) (b : ℕ) → skipped s ≡ b ∷ u → blank b ≡ false
skipped_starts [] u b e = let z : ◌≡◌ {A = ℕ} 0 1 = cc in absurd (omega arith)
skipped_starts (c ∷ s) u b e = go (blank c) refl (skipped_starts s u b)
  where
    go : (v : Bool) → blank c ≡ v → (skipped s ≡ b ∷ u → blank b ≡ false) → blank b ≡ false
    go true h ih = ih (rw h at e)
    go false h ih = let g : c ∷ s ≡ b ∷ u = rw h at e in let k : c ≡ b = cc in subst (λ (x : ℕ). blank x ≡ false) k h

pub skipped_twice : (s : List ℕ) → skipped (skipped s) ≡ skipped s
skipped_twice [] = refl
skipped_twice (b ∷ s) = go (blank b) refl (skipped_twice s)
  where
    go : (v : Bool) → blank b ≡ v → skipped (skipped s) ≡ skipped s → skipped (cond (blank b) (skipped s) (b ∷ s)) ≡ cond (blank b) (skipped s) (b ∷ s)
    go true e ih = rw e ih
    go false e ih = simp e

-- a mark is a sign
lex_mark : (end b : ℕ) (s : List ℕ) → blank b ≡ false → letter b ≡ false → digit b ≡ false → lex end (b ∷ s) ≡ (end - length (b ∷ s), mark b) ∷ lex end s
unfolding lex
lex_mark end b s h l d = simp (h, l, d)

apart_letter : (p b : ℕ) (s : List Placed) → with_letter p b false s ≡ (p, word (b ∷ [])) ∷ s
apart_letter p b [] = refl
apart_letter p b ((q, word w) ∷ s) = refl
apart_letter p b ((q, digits w) ∷ s) = refl
apart_letter p b ((q, mark c) ∷ s) = refl

apart_digit : (p b : ℕ) (s : List Placed) → with_digit p b false s ≡ (p, digits (b ∷ [])) ∷ s
apart_digit p b [] = refl
apart_digit p b ((q, digits w) ∷ s) = refl
apart_digit p b ((q, word w) ∷ s) = refl
apart_digit p b ((q, mark c) ∷ s) = refl

letter_shows : (b : ℕ) → letter b ≡ true → blank b ≡ false
letter_shows b h = grind (arith, nat_tests)

digit_shows : (b : ℕ) → digit b ≡ true → (blank b ≡ false) × (letter b ≡ false)
digit_shows b h = (grind (arith, nat_tests), grind (arith, nat_tests))

-- a run is one sign: `one` says so of a single byte, `more` of a byte before a run
module _ (end : ℕ) (kind : ℕ → Bool) (make : List ℕ → Sign)
    (one : (b : ℕ) (s : List ℕ) → kind b ≡ true → begins kind s ≡ false → lex end (b ∷ s) ≡ (end - length (b ∷ s), make (b ∷ [])) ∷ lex end s)
    (more : (b : ℕ) (s : List ℕ) (p : ℕ) (w : List ℕ) (r : List Placed) → kind b ≡ true → begins kind s ≡ true → lex end s ≡ (p, make w) ∷ r → lex end (b ∷ s) ≡ (end - length (b ∷ s), make (b ∷ w)) ∷ r) where
  lex_run : (s : List ℕ) (b : ℕ) → kind b ≡ true → lex end (b ∷ s) ≡ (end - length (b ∷ s), make (b ∷ take (run kind s) s)) ∷ lex end (drop (run kind s) s)
  lex_run [] b h = one b [] h refl
  lex_run (c ∷ s) b h = go (kind c) refl (lex_run s c)
    where
      go : (v : Bool) → kind c ≡ v → (kind c ≡ true → lex end (c ∷ s) ≡ (end - length (c ∷ s), make (c ∷ take (run kind s) s)) ∷ lex end (drop (run kind s) s)) → lex end (b ∷ c ∷ s) ≡ (end - length (b ∷ c ∷ s), make (b ∷ take (cond (kind c) (suc (run kind s)) 0) (c ∷ s))) ∷ lex end (drop (cond (kind c) (suc (run kind s)) 0) (c ∷ s))
      go true k ih = rw k (more b (c ∷ s) (end - length (c ∷ s)) (c ∷ take (run kind s) s) (lex end (drop (run kind s) s)) h k (ih k))
      go false k ih = rw k (one b (c ∷ s) h k)

one_letter : (end b : ℕ) (s : List ℕ) → letter b ≡ true → begins letter s ≡ false → lex end (b ∷ s) ≡ (end - length (b ∷ s), word (b ∷ [])) ∷ lex end s
unfolding lex
one_letter end b s h e = let n = letter_shows b h in simp (n, h, e) (apart_letter (end - length (b ∷ s)) b (lex end s))

more_letters : (end b : ℕ) (s : List ℕ) (p : ℕ) (w : List ℕ) (r : List Placed) → letter b ≡ true → begins letter s ≡ true → lex end s ≡ (p, word w) ∷ r → lex end (b ∷ s) ≡ (end - length (b ∷ s), word (b ∷ w)) ∷ r
unfolding lex
more_letters end b s p w r h e g = let n = letter_shows b h in simp (n, h, e, g)

one_digit : (end b : ℕ) (s : List ℕ) → digit b ≡ true → begins digit s ≡ false → lex end (b ∷ s) ≡ (end - length (b ∷ s), digits (b ∷ [])) ∷ lex end s
unfolding lex
one_digit end b s h e = let n = digit_shows b h in simp (n.0, n.1, h, e) (apart_digit (end - length (b ∷ s)) b (lex end s))

more_digits : (end b : ℕ) (s : List ℕ) (p : ℕ) (w : List ℕ) (r : List Placed) → digit b ≡ true → begins digit s ≡ true → lex end s ≡ (p, digits w) ∷ r → lex end (b ∷ s) ≡ (end - length (b ∷ s), digits (b ∷ w)) ∷ r
unfolding lex
more_digits end b s p w r h e g = let n = digit_shows b h in simp (n.0, n.1, h, e, g)

-- the first sign of a text that begins with b, and what is left after it
abbrev pub first_sign : ℕ → List ℕ → Sign
first_sign b s = cond (letter b) (word (b ∷ take (run letter s) s)) (cond (digit b) (digits (b ∷ take (run digit s) s)) (mark b))

abbrev pub after_first : ℕ → List ℕ → List ℕ
after_first b s = cond (letter b) (drop (run letter s) s) (cond (digit b) (drop (run digit s) s) s)

lex-first : (end b : ℕ) (s : List ℕ) → blank b ≡ false → lex end (b ∷ s) ≡ (end - length (b ∷ s), first_sign b s) ∷ lex end (after_first b s)
lex-first end b s h = go (letter b) refl (digit b) refl
  where
    go : (v : Bool) → letter b ≡ v → (w : Bool) → digit b ≡ w → lex end (b ∷ s) ≡ (end - length (b ∷ s), first_sign b s) ∷ lex end (after_first b s)
    go true l w d = rw l (lex_run end letter word (one_letter end) (more_letters end) s b l)
    go false l true d = simp (l, d) (lex_run end digit digits (one_digit end) (more_digits end) s b d)
    go false l false d = simp (l, d) (lex_mark end b s h l d)

-- the signs of a text of which u is left after b, once blanks are passed
pub signs_from : (end : ℕ) (text rest u : List ℕ) (b : ℕ) → rest ≡ skipped text → b ∷ u ≡ rest → lex end text ≡ (end - length rest, first_sign b u) ∷ lex end (after_first b u)
signs_from end text rest u b e f =
    sym (lex-skipped end text) ∙ ap (lex end) (sym (f ∙ e)) ∙ lex-first end b u (skipped_starts text u b (sym (f ∙ e)))
    ∙ ap (λ (n : ℕ). (end - n, first_sign b u) ∷ lex end (after_first b u)) (ap length f)

pub signs_none : (end : ℕ) (text : List ℕ) → [] ≡ skipped text → lex end text ≡ []
unfolding lex
signs_none end text e = sym (lex-skipped end text) ∙ ap (lex end) (sym e)
