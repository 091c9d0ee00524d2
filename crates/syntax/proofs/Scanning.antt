-- What reading gives at one sign, by the bytes that stand there.
use Rattle.std.proofs.Common.{◌≡◌, ℕ, zero, suc, ◌+◌, ◌-◌, ◌*◌, ◌<◌, ◌≤◌, Bool, true, false, cond, not, ◌&&◌, eqb, leb, List, [], ◌∷◌, ◌++◌, length, get_or, take, drop, codes, refl, ap, ◌∙◌, arith}
use Rattle.std.specs.List.{prefix_len}
use Rattle.std.proofs.lemmas.Slice.Eq.{bytes_eq-Decides}
use Rattle.std.proofs.lemmas.List.{take_more}
use Rattle.std.proofs.lemmas.Bool.{eq-eqb, ne_eqb, and_parts, leb-true}
use Rattle.syntax.specs.declared.refusal.Fault.TheVariants.{WrongSign}
use Rattle.syntax.specs.Signs.{Sign, word, digits, mark, Placed, letter, digit, lex, is_let, is_in, is_iter, is_name, is_number, number_after, number_of}
use Rattle.syntax.specs.Parse.{got, refuse, expect, is_mark, is_word_in, binder}
use Rattle.syntax.specs.Steps.{skipped, run}
use Rattle.syntax.proofs.Lexing.{first_sign, after_first, signs_from, signs_none}

-- how many bytes std counts at the front
pub run_is : (kind : ℕ → Bool) (s : List ℕ) → prefix_len kind s ≡ run kind s
run_is kind [] = refl
run_is kind (b ∷ s) = let e = run_is kind s in rw e (go (kind b))
  where
    go : (v : Bool) → cond v (1 + run kind s) 0 ≡ cond v (suc (run kind s)) 0
    go true = omega arith
    go false = refl

-- every byte of the front is of the kind
pub run_all : (kind : ℕ → Bool) (s : List ℕ) (k : ℕ) → k < length (take (run kind s) s) → kind (get_or (take (run kind s) s) k 0) ≡ true
run_all kind [] k h = absurd (omega arith)
run_all kind (b ∷ s) k h = go (kind b) refl k h (run_all kind s)
  where
    go : (v : Bool) → kind b ≡ v → (k : ℕ) → k < length (take (cond (kind b) (suc (run kind s)) 0) (b ∷ s)) → ((k : ℕ) → k < length (take (run kind s) s) → kind (get_or (take (run kind s) s) k 0) ≡ true) → kind (get_or (take (cond (kind b) (suc (run kind s)) 0) (b ∷ s)) k 0) ≡ true
    go false e k h ih = let g : k < 0 = rw e at h in absurd (omega arith)
    go true e zero h ih = rw e e
    go true e (suc k) h ih = let g : suc k < suc (length (take (run kind s) s)) = rw e at h in rw e (ih k (omega arith))

module _ (end : ℕ) (text : List ℕ) where
  -- the mark stands here, or another sign, or none
  pub mark_here : (m : ℕ) (rest u : List ℕ) → rest ≡ skipped text → m ∷ u ≡ rest → letter m ≡ false → digit m ≡ false → lex end text ≡ (end - length rest, mark m) ∷ lex end u
  mark_here m rest u e f l d =
      let k = signs_from end text rest u m e f in
      k ∙ simp (l, d)

  pub expect_hit : (m : ℕ) (rest u : List ℕ) → rest ≡ skipped text → m ∷ u ≡ rest → letter m ≡ false → digit m ≡ false → expect end (is_mark m) (lex end text) ≡ got tt (lex end u)
  expect_hit m rest u e f l d = let same : eqb m m ≡ true = eq-eqb m m refl in rw (mark_here m rest u e f l d, same)

  other_mark : (m b : ℕ) (u : List ℕ) → (b ≡ m → ⊥) → is_mark m (first_sign b u) ≡ false
  other_mark m b u ne = go (letter b) refl (digit b) refl
    where
      go : (v : Bool) → letter b ≡ v → (w : Bool) → digit b ≡ w → is_mark m (first_sign b u) ≡ false
      go true l w d = rw l
      go false l true d = simp (l, d)
      go false l false d = simp (l, d) (ne_eqb b m ne)

  pub expect_miss : (m : ℕ) (rest : List ℕ) → rest ≡ skipped text → (1 ≤ length rest → get_or rest 0 0 ≡ m → ⊥) → expect end (is_mark m) (lex end text) ≡ refuse WrongSign (end - length rest)
  expect_miss m [] e ne = rw (signs_none end text e) (ap (refuse WrongSign) (omega arith))
  expect_miss m (b ∷ u) e ne = let n = other_mark m b u (ne (omega arith)) in rw (signs_from end text (b ∷ u) u b e refl, n)

  -- a run of letters at the front of what is left: the word that stands here, or none does
  word_here : (b : ℕ) (u : List ℕ) → b ∷ u ≡ skipped text → letter b ≡ true → lex end text ≡ (end - length (b ∷ u), word (take (run letter (b ∷ u)) (b ∷ u))) ∷ lex end (drop (run letter (b ∷ u)) (b ∷ u))
  word_here b u e l = let k = signs_from end text (b ∷ u) u b e refl in k ∙ simp l

  no_word : (kind : Sign → Bool) (b : ℕ) (u : List ℕ) → letter b ≡ false → ((ds : List ℕ) → kind (digits ds) ≡ false) → ((m : ℕ) → kind (mark m) ≡ false) → kind (first_sign b u) ≡ false
  no_word kind b u l hd hm = go (digit b) refl
    where
      go : (w : Bool) → digit b ≡ w → kind (first_sign b u) ≡ false
      go true d = simp (l, d) (hd (b ∷ take (run digit u) u))
      go false d = simp (l, d) (hm b)

  pub in_hit : (rest : List ℕ) → rest ≡ skipped text → take (run letter rest) rest ≡ codes "in" → expect end is_word_in (lex end text) ≡ got tt (lex end (drop (run letter rest) rest))
  in_hit [] e f = let z : ◌≡◌ {A = ℕ} 0 1 = cc in absurd (omega arith)
  in_hit (b ∷ u) e f = go (letter b) refl
    where
      go : (v : Bool) → letter b ≡ v → expect end is_word_in (lex end text) ≡ got tt (lex end (drop (run letter (b ∷ u)) (b ∷ u)))
      go true l = rw (word_here b u e l, f)
      go false l = let g : [] ≡ codes "in" = rw l at f in let z : ◌≡◌ {A = ℕ} 0 1 = cc in absurd (omega arith)

  pub in_miss : (rest : List ℕ) → rest ≡ skipped text → (take (run letter rest) rest ≡ codes "in" → ⊥) → expect end is_word_in (lex end text) ≡ refuse WrongSign (end - length rest)
  in_miss [] e f = rw (signs_none end text e) (ap (refuse WrongSign) (omega arith))
  in_miss (b ∷ u) e f = go (letter b) refl
    where
      go : (v : Bool) → letter b ≡ v → expect end is_word_in (lex end text) ≡ refuse WrongSign (end - length (b ∷ u))
      go true l = let g : is_in (take (run letter (b ∷ u)) (b ∷ u)) ≡ false = grind (arith, bytes_eq-Decides (take (run letter (b ∷ u)) (b ∷ u)) (codes "in"), f) in rw (word_here b u e l, g)
      go false l = let g = no_word is_word_in b u l (λ _. refl) (λ _. refl) in rw (signs_from end text (b ∷ u) u b e refl, g)

  pub binder_hit : (rest : List ℕ) → rest ≡ skipped text → 1 ≤ length (take (run letter rest) rest) → is_name (take (run letter rest) rest) ≡ true → binder end (lex end text) ≡ got (record { place = end - length rest; name = take (run letter rest) rest }) (lex end (drop (run letter rest) rest))
  binder_hit [] e h n = absurd (omega arith)
  binder_hit (b ∷ u) e h n = go (letter b) refl
    where
      go : (v : Bool) → letter b ≡ v → binder end (lex end text) ≡ got (record { place = end - length (b ∷ u); name = take (run letter (b ∷ u)) (b ∷ u) }) (lex end (drop (run letter (b ∷ u)) (b ∷ u)))
      go true l = rw (word_here b u e l, n)
      go false l = let g : 1 ≤ 0 = rw l at h in absurd (omega arith)

  binder_other : (p : ℕ) (b : ℕ) (u : List ℕ) (r : List Placed) → letter b ≡ false → binder end ((p, first_sign b u) ∷ r) ≡ refuse WrongSign p
  binder_other p b u r l = go (digit b) refl
    where
      go : (w : Bool) → digit b ≡ w → binder end ((p, first_sign b u) ∷ r) ≡ refuse WrongSign p
      go true d = simp (l, d)
      go false d = simp (l, d)

  pub binder_miss : (rest : List ℕ) → rest ≡ skipped text → (1 ≤ length (take (run letter rest) rest) → is_name (take (run letter rest) rest) ≡ false) → binder end (lex end text) ≡ refuse WrongSign (end - length rest)
  binder_miss [] e n = rw (signs_none end text e) (ap (refuse WrongSign) (omega arith))
  binder_miss (b ∷ u) e n = go (letter b) refl
    where
      go : (v : Bool) → letter b ≡ v → binder end (lex end text) ≡ refuse WrongSign (end - length (b ∷ u))
      go true l = let g : is_name (take (run letter (b ∷ u)) (b ∷ u)) ≡ false = n (rw l (omega arith)) in rw (word_here b u e l, g)
      go false l = rw (signs_from end text (b ∷ u) u b e refl) (binder_other (end - length (b ∷ u)) b u (lex end (after_first b u)) l)

-- digits: a number grows with each of them
pub number_ge : (ds : List ℕ) (n : ℕ) → n ≤ number_after n ds
number_ge [] n = omega arith
number_ge (d ∷ ds) n = let h = number_ge ds (n * 10 + (d - 48)) in omega arith

number_append : (xs ys : List ℕ) (n : ℕ) → number_after n (xs ++ ys) ≡ number_after (number_after n xs) ys
number_append [] ys n = refl
number_append (x ∷ xs) ys n = number_append xs ys (n * 10 + (x - 48))

pub number_more : (ds : List ℕ) (i : ℕ) → i < length ds → number_of (take (i + 1) ds) ≡ number_of (take i ds) * 10 + (get_or ds i 0 - 48)
number_more ds i h = ap number_of (take_more ds i 0 h) ∙ number_append (take i ds) (get_or ds i 0 ∷ []) 0

pub number_front : (ds : List ℕ) (i : ℕ) → number_of (take i ds) ≤ number_of ds
number_front ds i =
    let e : number_of (take i ds ++ drop i ds) ≡ number_of ds = ap number_of (lib.ListN.take-append-drop i ds) in
    let g = number_append (take i ds) (drop i ds) 0 in
    let h = number_ge (drop i ds) (number_of (take i ds)) in
    omega arith

pub plain-number : (ds : List ℕ) → 1 ≤ length ds → (2 ≤ length ds → get_or ds 0 0 ≡ 48 → ⊥) → is_number ds ≡ true
plain-number [] h ne = absurd (omega arith)
plain-number (d ∷ []) h ne = refl
plain-number (d ∷ e ∷ ds) h ne = let n = ne_eqb d 48 (ne (omega arith)) in rw n

pub name_short : (w : List ℕ) → is_name w ≡ true → length w ≤ 16
name_short w e = let p = and_parts (leb (length w) 16) (not (is_let w) && (not (is_in w) && not (is_iter w))) e in leb-true (length w) 16 p.0
