-- Counting typings one by one counts their judgements.
use Rattle.std.proofs.Common.{◌≡◌, ℕ, zero, suc, ◌+◌, ◌-◌, ◌*◌, ◌^◌, ◌<◌, ◌≤◌, min, max, List, [], ◌∷◌, ◌++◌, length, get_or, take, vec_items, sym, refl, ap, ◌∙◌, subst, arith, length-take}
use Rattle.std.proofs.lemmas.List.{take_more, get_or_default}
use Rattle.calculus.specs.Types.{Ty, ◌⇒◌, ◌⊗◌, height, naturals}
use Rattle.syntax.specs.Trees.{Tree, occ, num, succ, lam, app, pair, split, iter}
use Rattle.syntax.specs.Program.{Denotes}
use Rattle.syntax.specs.declared.program.TypeCell.{TypeCell}
use Rattle.syntax.specs.declared.program.Shape.{Shape}
use Rattle.syntax.specs.declared.program.Shape.TheVariants.{Variable, Number, Successor, Function, Application, Pair, Let, Iterator}
use Rattle.syntax.specs.declared.program.Subterm.{Subterm}
use Rattle.language.specs.declared.table.TypeTable.{TypeTable}
use Rattle.language.specs.declared.typing.Typing.{Typing}
use Rattle.language.specs.declared.measure.Measure.{Measure}
use Rattle.language.specs.declared.counts.Facts.{Facts}
use Rattle.language.specs.Measures.{measure_of, number, HeightsOf, NaturalsOf}
use Rattle.language.specs.Judgements.{Judgement, a_successor, an_iterator, counted, share, Low}
use Rattle.language.specs.Checks.{Stands, Lists}
use Rattle.language.specs.Counts.{successor_at, iterator_at, share_at, Countable, Counts}
use Rattle.language.proofs.Heights.{kept_height}
use Rattle.language.proofs.Shapes.{blank, there}
use Rattle.language.proofs.Sums.{low_naturals}

-- the number of Ns that is kept beside a cell
kept_naturals : (A : Ty) → (measure_of A).naturals ≡ min (naturals A) (2 ^ 128 - 1)
kept_naturals Ty.N = refl
kept_naturals (A ⇒ B) = omega (arith, kept_naturals A, kept_naturals B)
kept_naturals (A ⊗ B) = omega (arith, kept_naturals A, kept_naturals B)

module _ (subs : List Subterm) (measures : List Measure) where
  abbrev pub shape_of : Typing → Shape
  shape_of x = (get_or subs x.subterm blank).shape

  abbrev pub measure_for : Typing → Measure
  measure_for x = get_or measures x.cell number

  -- the counts of a list of typings
  abbrev pub tally : List Typing → Facts
  tally [] = record { subterms = 0; iterators = 0; successors = 0; height = 0; weight = 0 }
  tally (x ∷ xs) =
      record {
        subterms = suc (tally xs).subterms;
        iterators = iterator_at (shape_of x) + (tally xs).iterators;
        successors = successor_at (shape_of x) + (tally xs).successors;
        height = max (measure_for x).height (tally xs).height;
        weight = share_at (shape_of x) (measure_for x) + (tally xs).weight;
      }

  -- one more typing
  abbrev pub more : Facts → Typing → Facts
  more f x =
      record {
        subterms = f.subterms + 1;
        iterators = f.iterators + iterator_at (shape_of x);
        successors = f.successors + successor_at (shape_of x);
        height = max f.height (measure_for x).height;
        weight = f.weight + share_at (shape_of x) (measure_for x);
      }

  pub same_facts : (f g : Facts) → f.subterms ≡ g.subterms → f.iterators ≡ g.iterators → f.successors ≡ g.successors → f.height ≡ g.height → f.weight ≡ g.weight → f ≡ g
  same_facts f g a b c d e = λ i. record { subterms = a i; iterators = b i; successors = c i; height = d i; weight = e i }

  push : (xs : List Typing) (x : Typing) → tally (xs ++ (x ∷ [])) ≡ more (tally xs) x
  push [] x = same_facts _ _ (omega arith) (omega arith) (omega arith) (omega arith) (omega arith)
  push (y ∷ xs) x =
      let h = push xs x in
      same_facts _ _ (omega (arith, ap (λ f. f.subterms) h)) (omega (arith, ap (λ f. f.iterators) h)) (omega (arith, ap (λ f. f.successors) h)) (omega (arith, ap (λ f. f.height) h)) (omega (arith, ap (λ f. f.weight) h))

  tally_more : (xs : List Typing) (i : ℕ) (d : Typing) → i < length xs → tally (take (i + 1) xs) ≡ more (tally (take i xs)) (get_or xs i d)
  tally_more xs i d h = ap tally (take_more xs i d h) ∙ push (take i xs) (get_or xs i d)

  -- counts that no word is too small for
  small : (xs : List Typing) → ((tally xs).subterms ≡ length xs) × ((tally xs).iterators ≤ length xs) × ((tally xs).successors ≤ length xs)
  small [] = (refl, omega arith, omega arith)
  small (x ∷ xs) = let h = small xs in (ap suc h.0, omega (arith, h.1, one_iterator (shape_of x)), omega (arith, h.2, one_successor (shape_of x)))
    where
      one_iterator : (s : Shape) → iterator_at s ≤ 1
      one_iterator s = elim s as (λ q. iterator_at q ≤ 1) [ Variable b ↦ omega arith | Number n ↦ omega arith | Successor i ↦ omega arith | Function b a i ↦ omega arith | Application i j ↦ omega arith | Pair i j ↦ omega arith | Let b c i j ↦ omega arith | Iterator i j k ↦ omega arith ]

      one_successor : (s : Shape) → successor_at s ≤ 1
      one_successor s = elim s as (λ q. successor_at q ≤ 1) [ Variable b ↦ omega arith | Number n ↦ omega arith | Successor i ↦ omega arith | Function b a i ↦ omega arith | Application i j ↦ omega arith | Pair i j ↦ omega arith | Let b c i j ↦ omega arith | Iterator i j k ↦ omega arith ]

  module _ (cells : List TypeCell) (heights : HeightsOf cells measures) (counts : NaturalsOf cells measures) where
    -- what the tables say of one typing
    record Says (x : Typing) (j : Judgement) : Type 0 where
      pub iterator : iterator_at (shape_of x) ≡ an_iterator j.subject
      pub successor : successor_at (shape_of x) ≡ a_successor j.subject
      pub height : (measure_for x).height ≡ height j.type
      pub weight : share_at (shape_of x) (measure_for x) ≡ share j
      light : share j ≤ 2 ^ 64

    record Shown (t : Tree ℕ) (s : Shape) (m : Measure) : Type 0 where
      pub iterator : iterator_at s ≡ an_iterator t
      pub successor : successor_at s ≡ a_successor t
      pub share : share_at s m ≡ counted t m.naturals

    shown : (t : Tree ℕ) (i : ℕ) (m : Measure) → Denotes subs cells i t → Shown t (get_or subs i blank).shape m
    shown (occ p b) i m h = let e = ap (λ y. y.shape) h.is in record { iterator = ap iterator_at e; successor = ap successor_at e; share = ap (λ s. share_at s m) e }
    shown (num p n) i m h = let e = ap (λ y. y.shape) h.is in record { iterator = ap iterator_at e; successor = ap successor_at e; share = ap (λ s. share_at s m) e }
    shown (succ p t) i m (j, h, l, d) = let e = ap (λ y. y.shape) h.is in record { iterator = ap iterator_at e; successor = ap successor_at e; share = ap (λ s. share_at s m) e }
    shown (lam p v T t) i m (c, j, h, l, y, d) = let e = ap (λ y. y.shape) h.is in record { iterator = ap iterator_at e; successor = ap successor_at e; share = ap (λ s. share_at s m) e }
    shown (app p t u) i m (j, k, h, l, n, d, f) = let e = ap (λ y. y.shape) h.is in record { iterator = ap iterator_at e; successor = ap successor_at e; share = ap (λ s. share_at s m) e }
    shown (pair p t u) i m (j, k, h, l, n, d, f) = let e = ap (λ y. y.shape) h.is in record { iterator = ap iterator_at e; successor = ap successor_at e; share = ap (λ s. share_at s m) e }
    shown (split p v w t u) i m (j, k, h, l, n, d, f) = let e = ap (λ y. y.shape) h.is in record { iterator = ap iterator_at e; successor = ap successor_at e; share = ap (λ s. share_at s m) e }
    shown (iter p t u v) i m (j, k, q, h, l, n, o, d, f, g) = let e = ap (λ y. y.shape) h.is in record { iterator = ap iterator_at e; successor = ap successor_at e; share = ap (λ s. share_at s m) e }

    counted_few : (t : Tree ℕ) (n : ℕ) → counted t n ≤ n
    counted_few (occ p b) n = omega arith
    counted_few (num p k) n = omega arith
    counted_few (succ p t) n = omega arith
    counted_few (lam p x T t) n = omega arith
    counted_few (app p t u) n = omega arith
    counted_few (pair p t u) n = omega arith
    counted_few (split p x y t u) n = omega arith
    counted_few (iter p t u v) n = omega arith

    says : (x : Typing) (j : Judgement) → Stands subs cells x j → height j.type ≤ 64 → Says x j
    says x j s low =
        let w = shown j.subject x.subterm (measure_for x) s.term in
        let few = low_naturals j.type low in
        let exact : (measure_for x).naturals ≡ naturals j.type = counts x.cell j.type s.type ∙ (kept_naturals j.type ∙ omega (arith, few)) in
        record {
          iterator = w.iterator;
          successor = w.successor;
          height = heights x.cell j.type s.type ∙ (kept_height j.type ∙ omega arith);
          weight = w.share ∙ ap (counted j.subject) exact;
          light = omega (arith, counted_few j.subject (naturals j.type), few);
        }

    pub tallied : (xs : List Typing) (js : List Judgement) → Lists subs cells xs js → Low js → Counts js (tally xs)
    tallied [] [] h l = record { subterms = refl; iterators = refl; successors = refl; height = refl; weight = refl }
    tallied [] (j ∷ js) h l = absurd h
    tallied (x ∷ xs) [] h l = absurd h
    tallied (x ∷ xs) (j ∷ js) h l =
        let s = says x j h.0 l.0 in
        let r = tallied xs js h.1 l.1 in
        record {
          subterms = ap suc r.subterms;
          iterators = omega (arith, s.iterator, r.iterators);
          successors = omega (arith, s.successor, r.successors);
          height = omega (arith, s.height, r.height);
          weight = omega (arith, s.weight, r.weight);
        }

    -- the weight so far, and where sub-terms stand
    light : (xs : List Typing) (js : List Judgement) (k : ℕ) → Lists subs cells xs js → Low js → (tally (take k xs)).weight ≤ k * 2 ^ 64
    light [] [] zero h l = omega arith
    light [] [] (suc k) h l = omega arith
    light [] (j ∷ js) k h l = absurd h
    light (x ∷ xs) [] k h l = absurd h
    light (x ∷ xs) (j ∷ js) zero h l = omega arith
    light (x ∷ xs) (j ∷ js) (suc k) h l = let s = says x j h.0 l.0 in omega (arith, s.weight, s.light, light xs js k h.1 l.1)

    stands_at : (xs : List Typing) (js : List Judgement) (i : ℕ) (d : Typing) → Lists subs cells xs js → i < length xs → (get_or xs i d).subterm < length subs
    stands_at [] js i d h l = absurd (omega arith)
    stands_at (x ∷ xs) [] i d h l = absurd h
    stands_at (x ∷ xs) (j ∷ js) zero d h l = there subs cells x.subterm j.subject h.0.term
    stands_at (x ∷ xs) (j ∷ js) (suc i) d h l = stands_at xs js i d h.1 (omega arith)

-- one turn of the count, of at most 2048 typings: the next one has the shape s
pub record Turn (subs : List Subterm) (measures : List Measure) (xs : List Typing) (i : ℕ) (f : Facts) (x : Typing) (s : Shape) : Type 0 where
  pub there : x.subterm < length subs
  pub subterms : f.subterms + 1 ≤ 2048
  pub iterators : f.iterators + iterator_at s ≤ 2048
  pub successors : f.successors + successor_at s ≤ 2048
  pub weight : f.weight + share_at s (measure_for subs measures x) ≤ 2048 * 2 ^ 64
  pub next : record { subterms = f.subterms + 1; iterators = f.iterators + iterator_at s; successors = f.successors + successor_at s; height = max f.height (measure_for subs measures x).height; weight = f.weight + share_at s (measure_for subs measures x) } ≡ tally subs measures (take (i + 1) xs)

pub turn : {subs : List Subterm} (types : TypeTable) {xs : List Typing} (i : ℕ) (f : Facts) (d : Subterm) → Countable subs (vec_items types.cells) xs → f ≡ tally subs (vec_items types.measures) (take i xs) → i < length xs → let x = get_or xs i (record { subterm = 0; cell = 0 }) in Turn subs (vec_items types.measures) xs i f x (get_or subs x.subterm d).shape
turn {subs} types {xs} i f d r e h =
    let ms = vec_items types.measures in
    let none : Typing = record { subterm = 0; cell = 0 } in
    let x = get_or xs i none in
    let there = stands_at subs ms (vec_items types.cells) types.heights types.counts xs r.judged i none r.lists h in
    let w : tally subs ms (take (i + 1) xs) ≡ more subs ms f x = tally_more subs ms xs i none h ∙ ap (λ g. more subs ms g x) (sym e) in
    let s = small subs ms (take (i + 1) xs) in
    let l = length-take (i + 1) xs in
    subst (Turn subs ms xs i f x) (ap (λ y. y.shape) (get_or_default subs x.subterm blank d there)) (record {
      there = there;
      subterms = omega (arith, ap (λ g. g.subterms) w, s.0, l, r.few);
      iterators = omega (arith, ap (λ g. g.iterators) w, s.1, l, r.few);
      successors = omega (arith, ap (λ g. g.successors) w, s.2, l, r.few);
      weight = omega (arith, ap (λ g. g.weight) w, light subs ms (vec_items types.cells) types.heights types.counts xs r.judged (i + 1) r.lists r.low, r.few, h);
      next = sym w;
    })
