-- The uses in force of a part are those of its own parts.
use Rattle.std.proofs.Common.{◌≡◌, ℕ, ◌+◌, ◌*◌, ◌<◌, ◌≤◌, Bool, true, false, cond, eqb, ◌⊎◌, Some, None, Option, List, [], ◌∷◌, ◌++◌, length, get_or, set, sym, refl, ap, ◌∙◌, subst, inl, inr, append_assoc, arith, length-append}
use Rattle.std.proofs.lemmas.List.{get_or-set_same, get_or-set_other, set-set, set-get_or}
use Rattle.std.specs.Option.{is_some, unwrap_or}
use Rattle.std.proofs.lemmas.List.Elements.{filter-append}
use Rattle.std.proofs.lemmas.List.Sums.{length-filter, count_by-le-length}
use Rattle.std.proofs.lemmas.Bool.{eqb-true, eqb-false}
use Rattle.cells.specs.Ports.{absent}
use Rattle.calculus.specs.Terms.{Term, var, succ, lam, app, pair, split, iter, free, without, subterms}
use Rattle.geometry.specs.Network.{EachVariable}
use Rattle.syntax.specs.declared.program.Shape.TheVariants.{Variable, Number, Successor, Function, Application, Pair, Let, Iterator}
use Rattle.network.specs.declared.part.Part.{Part}
use Rattle.network.specs.Parts.{no_part, Holds}
use Rattle.network.specs.Wiring.{Table, start_of, starting, in_force, Below, Gatherable}
use Rattle.network.proofs.Sizes.{uses_few}
use Rattle.network.proofs.Opened.{shaped}

pub start_same : (s : Table) (x : ℕ) (p : Option ℕ) → x < length s → start_of (set s x p) x ≡ p
start_same s x p h = get_or-set_same s x p None h

start_other : (s : Table) (x y : ℕ) (p : Option ℕ) → eqb x y ≡ false → start_of (set s x p) y ≡ start_of s y
start_other s x y p e = get_or-set_other s x y p None (λ q. eqb-false x y e (sym q))

pub starts_other : (s : Table) (x y : ℕ) (p : Option ℕ) → eqb x y ≡ false → starting (set s x p) y ≡ starting s y
starts_other s x y p e = ap (λ q. unwrap_or q absent) (start_other s x y p e)

-- a port among those of n nodes is none's
pub there_is : (n : ℕ) (o : Option ℕ) → 3 * n ≤ 4294967295 → unwrap_or o absent < 3 * n → is_some o ≡ true
there_is n None h l = absurd (omega arith)
there_is n (Some p) h l = refl

-- what was there, put back
put_back : (s m : Table) (x : ℕ) (p : Option ℕ) → m ≡ set s x p → set m x (start_of s x) ≡ s
put_back s m x p e = rw e (set-set s x p (start_of s x) ∙ set-get_or s x None)

pub restored : (s m s' : Table) (x : ℕ) (p o : Option ℕ) → m ≡ set s x p → o ≡ start_of s x → s' ≡ set m x o → s' ≡ s
restored s m s' x p o e f g = g ∙ (ap (λ v. set m x v) f ∙ put_back s m x p e)

-- a variable that is taken out of force is not listed
in_force_hidden : (s : Table) (x : ℕ) → x < length s → (xs : List ℕ) → in_force (set s x None) xs ≡ in_force s (without x xs)
in_force_hidden s x l [] = refl
in_force_hidden s x l (y ∷ ys) = go (in_force_hidden s x l ys) (eqb x y) refl
  where
    go : in_force (set s x None) ys ≡ in_force s (without x ys) → (b : Bool) → eqb x y ≡ b → in_force (set s x None) (y ∷ ys) ≡ in_force s (cond (eqb x y) (without x ys) (y ∷ without x ys))
    go h true e = rw (e, ← (eqb-true x y e), start_same s x None l) h
    go h false e = rw (e, start_other s x y None e, h) refl

-- variables that start at ports are all in force
pub in_force_all : (n : ℕ) (s : Table) (xs : List ℕ) → 3 * n ≤ 4294967295 → EachVariable (λ x. starting s x < 3 * n) xs → in_force s xs ≡ xs
in_force_all n s [] l h = refl
in_force_all n s (x ∷ xs) l h = rw (there_is n (start_of s x) l h.0, in_force_all n s xs l h.1) refl

-- uses listed one after another
pub listed-both : (s : Table) (us vs ws xs ys : List ℕ) → vs ≡ us ++ in_force s xs → ws ≡ vs ++ in_force s ys → ws ≡ us ++ in_force s (xs ++ ys)
listed-both s us vs ws xs ys p q = rw (filter-append (λ x. is_some (start_of s x)) xs ys) (q ∙ (ap (λ l. l ++ in_force s ys) p ∙ append_assoc us (in_force s xs) (in_force s ys)))

pub listed_bound : (s : Table) (us vs : List ℕ) (x : ℕ) (xs : List ℕ) → x < length s → vs ≡ us ++ in_force (set s x None) xs → vs ≡ us ++ in_force s (without x xs)
listed_bound s us vs x xs l p = p ∙ ap (λ l. us ++ l) (in_force_hidden s x l xs)

pub listed-length : (s : Table) (us vs : List ℕ) (t : Term) → vs ≡ us ++ in_force s (free t) → length vs ≤ length us + subterms t
listed-length s us vs t p =
    let q = λ (x : ℕ). is_some (start_of s x) in
    omega (arith, ap length p, length-append us (in_force s (free t)), length-filter q (free t), count_by-le-length q (free t), uses_few t)

-- the parts of a part whose uses can be listed: what they have free, and that theirs can be listed, one after another
pub record One (parts : List Part) (i j size listed : ℕ) (t : Term) : Type 0 where
  pub a : Term
  pub less : j < i
  pub free_is : free t ≡ free a
  pub part : Gatherable parts j size listed a

pub record Bound (parts : List Part) (i x j size listed : ℕ) (t : Term) : Type 0 where
  pub a : Term
  pub less : j < i
  pub placed : x < size
  pub free_is : free t ≡ without x (free a)
  pub part : (size' more : ℕ) → size' ≡ size → more ≡ listed → Gatherable parts j size' more a

pub record Two (parts : List Part) (i j k size listed : ℕ) (t : Term) : Type 0 where
  pub a : Term
  pub b : Term
  pub less : (j < i) × (k < i)
  pub free_is : free t ≡ free a ++ free b
  pub left : Gatherable parts j size listed a
  pub right : (size' more : ℕ) → size' ≡ size → more ≤ listed + subterms a → Gatherable parts k size' more b

pub record Split (parts : List Part) (i x y j k size listed : ℕ) (t : Term) : Type 0 where
  pub a : Term
  pub b : Term
  pub less : (j < i) × (k < i)
  pub placed : (x < size) × (y < size)
  pub free_is : free t ≡ free a ++ without x (without y (free b))
  pub left : Gatherable parts j size listed a
  pub right : (size' more : ℕ) → size' ≡ size → more ≤ listed + subterms a → Gatherable parts k size' more b

pub record Three (parts : List Part) (i j k l size listed : ℕ) (t : Term) : Type 0 where
  pub a : Term
  pub b : Term
  pub c : Term
  pub less : (j < i) × (k < i) × (l < i)
  pub free_is : free t ≡ free a ++ (free b ++ free c)
  pub first : Gatherable parts j size listed a
  pub second : (size' more : ℕ) → size' ≡ size → more ≤ listed + subterms a → Gatherable parts k size' more b
  pub third : (size' more : ℕ) → size' ≡ size → more ≤ listed + subterms a + subterms b → Gatherable parts l size' more c

-- a table as long has a place for the same variables
pub below_long : (t : Term) (m n : ℕ) → n ≡ m → Below m t → Below n t
below_long t m n e b = subst (λ k. Below k t) (sym e) b

module _ {parts : List Part} {i size listed : ℕ} {t : Term} {p : Part} (e : get_or parts i no_part ≡ p) (g : Gatherable parts i size listed t) where
  known_as : (u : Term) → t ≡ u → Gatherable parts i size listed u
  known_as u q = subst (Gatherable parts i size listed) q g

  part : (j m n more : ℕ) (a : Term) → Holds parts j a → Below m a → n ≡ m → more + subterms a ≤ 2048 → Gatherable parts j n more a
  part j m n more a h b z r = record { holds = h; below = below_long a m n z b; room = r }

  pub used : (x : ℕ) → p.shape ≡ Variable x → (free t ≡ x ∷ []) × (x < size) × (listed < 2048)
  used x f = let q = shaped parts i t p (Variable x) e f g.holds in let w = known_as (var x) q in (ap free q, w.below, omega (arith, w.room))

  pub unused : (n : ℕ) → p.shape ≡ Number n → free t ≡ []
  unused n f = ap free (shaped parts i t p (Number n) e f g.holds)

  pub one : (j : ℕ) → p.shape ≡ Successor j → One parts i j size listed t
  one j f =
      let (a, q, l, d) = shaped parts i t p (Successor j) e f g.holds in
      let w = known_as (succ a) q in
      record { a = a; less = l; free_is = ap free q; part = part j size size listed a d w.below refl (omega (arith, w.room)) }

  pub bound : (x n j : ℕ) → p.shape ≡ Function x n j → Bound parts i x j size listed t
  bound x n j f =
      let (T, a, q, l, d) = shaped parts i t p (Function x n j) e f g.holds in
      let w = known_as (lam x T a) q in
      record { a = a; less = l; placed = w.below.0; free_is = ap free q; part = λ m o z r. part j size m o a d w.below.1 z (omega (arith, w.room, r)) }

  pub two : (j k : ℕ) → (p.shape ≡ Application j k) ⊎ (p.shape ≡ Pair j k) → Two parts i j k size listed t
  two j k (inl f) =
      let (a, b, q, l, l', d, d') = shaped parts i t p (Application j k) e f g.holds in
      let w = known_as (app a b) q in
      record { a = a; b = b; less = (l, l'); free_is = ap free q; left = part j size size listed a d w.below.0 refl (omega (arith, w.room)); right = λ m o z r. part k size m o b d' w.below.1 z (omega (arith, w.room, r)) }
  two j k (inr f) =
      let (a, b, q, l, l', d, d') = shaped parts i t p (Pair j k) e f g.holds in
      let w = known_as (pair a b) q in
      record { a = a; b = b; less = (l, l'); free_is = ap free q; left = part j size size listed a d w.below.0 refl (omega (arith, w.room)); right = λ m o z r. part k size m o b d' w.below.1 z (omega (arith, w.room, r)) }

  pub split_of : (x y j k : ℕ) → p.shape ≡ Let x y j k → Split parts i x y j k size listed t
  split_of x y j k f =
      let (a, b, q, l, l', d, d') = shaped parts i t p (Let x y j k) e f g.holds in
      let w = known_as (split x y a b) q in
      record {
        a = a;
        b = b;
        less = (l, l');
        placed = (w.below.0, w.below.1);
        free_is = ap free q;
        left = part j size size listed a d w.below.2 refl (omega (arith, w.room));
        right = λ m o z r. part k size m o b d' w.below.3 z (omega (arith, w.room, r));
      }

  pub three : (j k l : ℕ) → p.shape ≡ Iterator j k l → Three parts i j k l size listed t
  three j k l f =
      let (a, b, c, q, z, z', z'', d, d', d'') = shaped parts i t p (Iterator j k l) e f g.holds in
      let w = known_as (iter a b c) q in
      record {
        a = a;
        b = b;
        c = c;
        less = (z, z', z'');
        free_is = ap free q;
        first = part j size size listed a d w.below.0 refl (omega (arith, w.room));
        second = λ m o y r. part k size m o b d' w.below.1 y (omega (arith, w.room, r));
        third = λ m o y r. part l size m o c d'' w.below.2 y (omega (arith, w.room, r));
      }
