-- What the first sign of a term tells, by the bytes that stand there.
use Rattle.std.proofs.Common.{◌≡◌, ℕ, suc, ◌-◌, ◌<◌, ◌≤◌, Bool, true, false, cond, ◌&&◌, ltb, List, [], ◌∷◌, length, get_or, take, drop, codes, sym, refl, ap, ◌∙◌, arith}
use Rattle.std.proofs.lemmas.Slice.Eq.{bytes_eq-Decides}
use Rattle.std.proofs.lemmas.Bool.{ne_eqb, le-leb, lt-leb}
use Rattle.std.proofs.lemmas.Bool.Decides.{nat_tests}
use Rattle.syntax.specs.declared.refusal.Fault.TheVariants.{WrongSign, LargeNumber}
use Rattle.syntax.specs.Trees.{occ, num}
use Rattle.syntax.specs.Signs.{word, digits, Placed, blank, letter, digit, lex, is_let, is_iter, is_name, is_number, number_of}
use Rattle.syntax.specs.Parse.{got, refuse, limited, TermReader, let_in, iterator, term_by}
use Rattle.syntax.specs.Steps.{skipped, run}
use Rattle.syntax.proofs.Lexing.{skip_off, signs_from, signs_none}

third : {X : Type 0} (a b c : Bool) (p q r s : X) → a ≡ false → b ≡ false → c ≡ true → cond a p (cond b q (cond c r s)) ≡ r
third a b c p q r s x y z = rw (x, y, z) refl

fourth : {X : Type 0} (a b c : Bool) (p q r s : X) → a ≡ false → b ≡ false → c ≡ false → cond a p (cond b q (cond c r s)) ≡ s
fourth a b c p q r s x y z = rw (x, y, z) refl

-- a run at the front of a text
word_at : (end : ℕ) (s : List ℕ) → 1 ≤ length s → letter (get_or s 0 0) ≡ true → lex end s ≡ (end - length s, word (take (run letter s) s)) ∷ lex end (drop (run letter s) s)
word_at end [] h l = absurd (omega arith)
word_at end (b ∷ u) h l =
    let plain : blank b ≡ false = grind (arith, nat_tests) in
    signs_from end (b ∷ u) (b ∷ u) u b (sym (skip_off (b ∷ u) (λ _. plain))) refl ∙ simp l

digits_at : (end : ℕ) (s : List ℕ) → 1 ≤ length s → digit (get_or s 0 0) ≡ true → lex end s ≡ (end - length s, digits (take (run digit s) s)) ∷ lex end (drop (run digit s) s)
digits_at end [] h d = absurd (omega arith)
digits_at end (b ∷ u) h d =
    let plain : blank b ≡ false = grind (arith, nat_tests) in
    let other : letter b ≡ false = grind (arith, nat_tests) in
    signs_from end (b ∷ u) (b ∷ u) u b (sym (skip_off (b ∷ u) (λ _. plain))) refl ∙ simp (other, d)

-- the same of a run that was cut off
pub word_front : (end : ℕ) (s w r : List ℕ) → 1 ≤ length s → letter (get_or s 0 0) ≡ true → w ≡ take (run letter s) s → r ≡ drop (run letter s) s → lex end s ≡ (end - length s, word w) ∷ lex end r
word_front end s w r h l x y = rw (x, y) (word_at end s h l)

pub digits_front : (end : ℕ) (s w r : List ℕ) → 1 ≤ length s → digit (get_or s 0 0) ≡ true → w ≡ take (run digit s) s → r ≡ drop (run digit s) s → lex end s ≡ (end - length s, digits w) ∷ lex end r
digits_front end s w r h d x y = rw (x, y) (digits_at end s h d)

pub run_some : (kind : ℕ → Bool) (s : List ℕ) → 1 ≤ length s → kind (get_or s 0 0) ≡ true → 1 ≤ length (take (run kind s) s)
run_some kind [] h k = absurd (omega arith)
run_some kind (b ∷ u) h k = rw k (omega arith)

module _ (end : ℕ) (s : List ℕ) (fits : Bool) (part : TermReader) (n m : ℕ) where
  module _ {p : ℕ} {w : List ℕ} {r : List Placed} (e : lex end s ≡ (p, word w) ∷ r) where
    pub by_let : w ≡ codes "let" → term_by end fits part n m (lex end s) ≡ limited (fits && ltb n 2048) p (let_in end part p (suc n) m r)
    by_let f = rw (e, f) refl

    pub by_iter_lem : w ≡ codes "iter" → term_by end fits part n m (lex end s) ≡ limited (fits && ltb n 2048) p (iterator part p (suc n) m r)
    by_iter_lem f = rw (e, f) refl

    module _ (no-let : w ≡ codes "let" → ⊥) (no-iter : w ≡ codes "iter" → ⊥) where
      x : is_let w ≡ false
      x = grind (arith, bytes_eq-Decides w (codes "let"), no-let)

      y : is_iter w ≡ false
      y = grind (arith, bytes_eq-Decides w (codes "iter"), no-iter)

      pub by_name : is_name w ≡ true → term_by end fits part n m (lex end s) ≡ limited (fits && ltb n 2048) p (got (occ p w, suc n, m) r)
      by_name z = ap (term_by end fits part n m) e ∙ third (is_let w) (is_iter w) (is_name w) _ _ _ _ x y z

      pub by_no_name : is_name w ≡ false → term_by end fits part n m (lex end s) ≡ refuse WrongSign p
      by_no_name z = ap (term_by end fits part n m) e ∙ fourth (is_let w) (is_iter w) (is_name w) _ _ _ _ x y z

  module _ {p : ℕ} {ds : List ℕ} {r : List Placed} (e : lex end s ≡ (p, digits ds) ∷ r) where
    pub by_number : (k : ℕ) → is_number ds ≡ true → k ≡ number_of ds → number_of ds ≤ 1000000000 → term_by end fits part n m (lex end s) ≡ limited (fits && ltb n 2048) p (got (num p k, suc n, m) r)
    by_number k z is small = let y = le-leb (number_of ds) 1000000000 small in ap (term_by end fits part n m) e ∙ simp (z, y) (ap (λ v. limited (fits && ltb n 2048) p (got (num p v, suc n, m) r)) (sym is))

    pub by_large : is_number ds ≡ true → 1000000000 < number_of ds → term_by end fits part n m (lex end s) ≡ refuse LargeNumber p
    by_large z large = let y = lt-leb (number_of ds) 1000000000 large in ap (term_by end fits part n m) e ∙ simp (z, y)

    pub by_no_number : is_number ds ≡ false → term_by end fits part n m (lex end s) ≡ refuse WrongSign p
    by_no_number z = ap (term_by end fits part n m) e ∙ simp z

-- no term begins with this byte
pub record NoTerm (b : ℕ) : Type 0 where
  pub letter : letter b ≡ false
  pub digit : digit b ≡ false
  pub s : b ≡ 83 → ⊥
  pub lam : b ≡ 92 → ⊥
  pub bracket : b ≡ 40 → ⊥
  pub pair : b ≡ 60 → ⊥

pub by_none : (end : ℕ) (s : List ℕ) (fits : Bool) (part : TermReader) (n m : ℕ) → s ≡ skipped s → (1 ≤ length s → NoTerm (get_or s 0 0)) → term_by end fits part n m (lex end s) ≡ refuse WrongSign (end - length s)
by_none end [] fits part n m e none = ap (term_by end fits part n m) (signs_none end [] e) ∙ ap (refuse WrongSign) (let z : end ≡ end - 0 = omega arith in z)
by_none end (b ∷ u) fits part n m e none =
    let h = none (omega arith) in
    let l = h.letter in
    let d = h.digit in
    let x₁ = ne_eqb b 83 h.s in
    let x₂ = ne_eqb b 92 h.lam in
    let x₃ = ne_eqb b 40 h.bracket in
    let x₄ = ne_eqb b 60 h.pair in
    ap (term_by end fits part n m) (signs_from end (b ∷ u) (b ∷ u) u b e refl) ∙ simp (l, d) (simp (x₁, x₂, x₃, x₄))
