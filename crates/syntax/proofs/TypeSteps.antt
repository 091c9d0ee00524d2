-- What reading a type gives, step by step.
use Rattle.std.proofs.Common.{◌≡◌, ℕ, suc, ◌+◌, ◌-◌, ◌<◌, ◌≤◌, Bool, true, false, ltb, ◌⊎◌, List, [], ◌∷◌, length, get_or, take, drop, refl, ap, ◌∙◌, inl, inr, arith, length-append, vec_items}
use Rattle.std.proofs.lemmas.Bool.{ne_eqb, cases_lt}
use Rattle.std.proofs.lemmas.Bool.Decides.{nat_tests}
use Rattle.calculus.specs.Types.{Ty, N}
use Rattle.syntax.specs.declared.refusal.Fault.TheVariants.{WrongSign, PassedLimit}
use Rattle.syntax.specs.declared.program.TypeCell.TheVariants as cell
use Rattle.syntax.specs.declared.signs.Joint.{Joint}
use Rattle.syntax.specs.declared.signs.Joint.TheVariants.{Arrow, Product}
use Rattle.syntax.specs.Signs.{word, digits, mark, Placed, letter, digit, lex}
use Rattle.syntax.specs.Parse.{Out, got, refuse, limited, joint, join, joined, TypeReader, type_by, type}
use Rattle.syntax.specs.declared.tables.Program.{Program}
use Rattle.syntax.specs.Steps.{skipped, run, cell_of, IsTypePut, TypeHeld}
use Rattle.syntax.proofs.Lexing.{front_at, first_sign, after_first, signs_from, signs_none}
use Rattle.syntax.proofs.Scanning.{mark_here}

type_suc : (end k l n : ℕ) (s : List Placed) → k ≡ suc l → type end k n s ≡ type_by end true (type end l) n s
unfolding type
type_suc end k l n s e = rw e refl

type_zero : (end k n : ℕ) (s : List Placed) → k ≡ 0 → type end k n s ≡ type_by end false (λ m r. refuse WrongSign end) n s
unfolding type
type_zero end k n s e = rw e refl

-- one level down, while there is one
type_down : (end depth n : ℕ) (s : List Placed) → depth < 64 → type end (64 - depth) n s ≡ type_by end true (type end (64 - (depth + 1))) n s
type_down end depth n s h = type_suc end (64 - depth) (64 - (depth + 1)) n s (omega arith)

type_bottom : (end depth n : ℕ) (s : List Placed) → 64 ≤ depth → type end (64 - depth) n s ≡ type_by end false (λ m r. refuse WrongSign end) n s
type_bottom end depth n s h = type_zero end (64 - depth) n s (omega arith)

-- a sign that is not looked for, or none
pub other_sign : {X : Type 0} (end : ℕ) (text rest : List ℕ) (read : List Placed → Out X) → rest ≡ skipped text → read [] ≡ refuse WrongSign end → ((p : ℕ) (w : List ℕ) (s : List Placed) → read ((p, word w) ∷ s) ≡ refuse WrongSign p) → ((p : ℕ) (w : List ℕ) (s : List Placed) → read ((p, digits w) ∷ s) ≡ refuse WrongSign p) → ((p : ℕ) (s : List Placed) → 1 ≤ length rest → read ((p, mark (get_or rest 0 0)) ∷ s) ≡ refuse WrongSign p) → read (lex end text) ≡ refuse WrongSign (end - length rest)
other_sign end text [] read e none w d m = ap read (signs_none end text e) ∙ none ∙ ap (refuse WrongSign) (let z : end ≡ end - 0 = omega arith in z)
other_sign end text (b ∷ u) read e none w d m = ap read (signs_from end text (b ∷ u) u b e refl) ∙ go (letter b) refl (digit b) refl
  where
    go : (v : Bool) → letter b ≡ v → (k : Bool) → digit b ≡ k → read ((end - length (b ∷ u), first_sign b u) ∷ lex end (after_first b u)) ≡ refuse WrongSign (end - length (b ∷ u))
    go true l k h = simp l (w (end - length (b ∷ u)) (b ∷ take (run letter u) u) (lex end (drop (run letter u) u)))
    go false l true h = simp (l, h) (d (end - length (b ∷ u)) (b ∷ take (run digit u) u) (lex end (drop (run digit u) u)))
    go false l false h = simp (l, h) (m (end - length (b ∷ u)) (lex end u) (omega arith))

-- what is left after the first byte
abbrev pub tail : List ℕ → List ℕ
tail s = take (length s - 1) (drop 1 s)

module _ (end : ℕ) (text rest : List ℕ) (e : rest ≡ skipped text) where
  module _ (h : 1 ≤ length rest) where
    -- a mark at the front
    pub mark_first : (b : ℕ) → get_or rest 0 0 ≡ b → letter b ≡ false → digit b ≡ false → lex end text ≡ (end - length rest, mark b) ∷ lex end (tail rest)
    mark_first b g l d = mark_here end text b rest (tail rest) e (front_at rest b h g) l d

    arrow_here : (n : ℕ) → get_or rest 0 0 ≡ 62 → joint end n (lex end text) ≡ limited (ltb n 2048) (end - length rest) (got Arrow (lex end (tail rest)))
    arrow_here n g = rw (mark_first 62 g refl refl) refl

    product_here : (n : ℕ) → get_or rest 0 0 ≡ 42 → joint end n (lex end text) ≡ limited (ltb n 2048) (end - length rest) (got Product (lex end (tail rest)))
    product_here n g = rw (mark_first 42 g refl refl) refl

    pub joint_here : (n b : ℕ) (j : Joint) → get_or rest 0 0 ≡ b → ((b ≡ 62) × (j ≡ Arrow)) ⊎ ((b ≡ 42) × (j ≡ Product)) → joint end n (lex end text) ≡ limited (ltb n 2048) (end - length rest) (got j (lex end (tail rest)))
    joint_here n b j g (inl (x, y)) = arrow_here n (g ∙ x) ∙ rw y refl
    joint_here n b j g (inr (x, y)) = product_here n (g ∙ x) ∙ rw y refl

    pub type_n : (depth n : ℕ) → get_or rest 0 0 ≡ 78 → depth < 64 → n < 2048 → type end (64 - depth) n (lex end text) ≡ got (N, suc n) (lex end (tail rest))
    type_n depth n g d few =
        let room : ltb n 2048 ≡ true = grind (arith, nat_tests) in
        type_down end depth n (lex end text) d ∙ rw (mark_first 78 g refl refl, room) refl

    pub type_n_full : (depth n : ℕ) → get_or rest 0 0 ≡ 78 → (64 ≤ depth) ⊎ (2048 ≤ n) → type end (64 - depth) n (lex end text) ≡ refuse PassedLimit (end - length rest)
    type_n_full depth n g full = go (cases_lt depth 64) full
      where
        here : lex end text ≡ (end - length rest, mark 78) ∷ lex end (tail rest)
        here = mark_first 78 g refl refl

        go : (depth < 64) ⊎ (64 ≤ depth) → (64 ≤ depth) ⊎ (2048 ≤ n) → type end (64 - depth) n (lex end text) ≡ refuse PassedLimit (end - length rest)
        go (inr d) full = type_bottom end depth n (lex end text) d ∙ rw here refl
        go (inl d) (inl full) = absurd (omega arith)
        go (inl d) (inr full) = let room : ltb n 2048 ≡ false = grind (arith, nat_tests) in type_down end depth n (lex end text) d ∙ rw (here, room) refl

    pub type_open : (depth n : ℕ) → get_or rest 0 0 ≡ 40 → depth < 64 → type end (64 - depth) n (lex end text) ≡ joined end (type end (64 - (depth + 1))) n (lex end (tail rest))
    type_open depth n g d = type_down end depth n (lex end text) d ∙ rw (mark_first 40 g refl refl) refl

    pub type_open_full : (depth n : ℕ) → get_or rest 0 0 ≡ 40 → 64 ≤ depth → type end (64 - depth) n (lex end text) ≡ refuse PassedLimit (end - length rest)
    type_open_full depth n g d = type_bottom end depth n (lex end text) d ∙ rw (mark_first 40 g refl refl) refl

  pub joint_other : (n : ℕ) → (1 ≤ length rest → (get_or rest 0 0 ≡ 62 → ⊥) × (get_or rest 0 0 ≡ 42 → ⊥)) → joint end n (lex end text) ≡ refuse WrongSign (end - length rest)
  joint_other n ne = other_sign end text rest (joint end n) e refl (λ p w s. refl) (λ p w s. refl)
      (λ p s h. let x = ne_eqb (get_or rest 0 0) 62 (ne h).0 in let y = ne_eqb (get_or rest 0 0) 42 (ne h).1 in rw (x, y) refl)

  by_other : (fits : Bool) (part : TypeReader) (n : ℕ) → (1 ≤ length rest → (get_or rest 0 0 ≡ 78 → ⊥) × (get_or rest 0 0 ≡ 40 → ⊥)) → type_by end fits part n (lex end text) ≡ refuse WrongSign (end - length rest)
  by_other fits part n ne = other_sign end text rest (type_by end fits part n) e refl (λ p w s. refl) (λ p w s. refl)
      (λ p s h. let x = ne_eqb (get_or rest 0 0) 78 (ne h).0 in let y = ne_eqb (get_or rest 0 0) 40 (ne h).1 in rw (x, y) refl)

  pub type_other : (depth n : ℕ) → (1 ≤ length rest → (get_or rest 0 0 ≡ 78 → ⊥) × (get_or rest 0 0 ≡ 40 → ⊥)) → type end (64 - depth) n (lex end text) ≡ refuse WrongSign (end - length rest)
  type_other depth n ne = go (cases_lt depth 64)
    where
      go : (depth < 64) ⊎ (64 ≤ depth) → type end (64 - depth) n (lex end text) ≡ refuse WrongSign (end - length rest)
      go (inl d) = type_down end depth n (lex end text) d ∙ by_other true (type end (64 - (depth + 1))) n ne
      go (inr d) = type_bottom end depth n (lex end text) d ∙ by_other false (λ m r. refuse WrongSign end) n ne

-- the cells of a type that is put together from two
pub held-join : (j : Joint) (more : ℕ) (old mid late new : Program) (a b : Ty × ℕ) (i k l : ℕ) → TypeHeld more old mid a i → TypeHeld (more + 1) mid late b k → IsTypePut (cell_of j i k) late new l → TypeHeld more old new (join j a.0 b.0, b.1) l
held-join Arrow more old mid late new a b i k l x y z =
    let e = z.types in
    let n = ap length e ∙ length-append (vec_items late.types) (cell_of Arrow i k ∷ []) in
    record { put = cc (x.put, x.at, y.put, y.at); at = omega (arith, z.at); counted = omega (arith, y.counted); few = y.few; subterms = cc (x.subterms, y.subterms, z.subterms) }
held-join Product more old mid late new a b i k l x y z =
    let e = z.types in
    let n = ap length e ∙ length-append (vec_items late.types) (cell_of Product i k ∷ []) in
    record { put = cc (x.put, x.at, y.put, y.at); at = omega (arith, z.at); counted = omega (arith, y.counted); few = y.few; subterms = cc (x.subterms, y.subterms, z.subterms) }

pub held_n : (more : ℕ) (old new : Program) (i : ℕ) → length (vec_items old.types) + more < 2048 → IsTypePut cell.N old new i → TypeHeld more old new (N, suc (length (vec_items old.types) + more)) i
held_n more old new i h z =
    let n = ap length z.types ∙ length-append (vec_items old.types) (cell.N ∷ []) in
    record { put = z.types; at = omega (arith, z.at); counted = omega arith; few = omega arith; subterms = z.subterms }
