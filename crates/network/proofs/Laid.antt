-- The nodes of a part are those of its construct and then those of its own parts, laid one behind the other.
use Rattle.std.proofs.Common.{◌≡◌, ℕ, zero, suc, ◌+◌, ◌-◌, ◌<◌, ◌≤◌, ◌⊎◌, List, [], ◌∷◌, ◌++◌, length, get_or, take, drop, set, replicate, sym, refl, ap, ◌∙◌, subst, inl, inr, append_assoc, arith, length-append, length-set}
use Rattle.std.proofs.lemmas.List.{take-append-drop, drop-set-lt}
use Rattle.std.proofs.Math.Seq.{take-suc-set}
use borrow.Rule.Slice.PartMut.{put_mid, mid_of, mid_len, Post-is}
use lib.ListN.{length-replicate}
use Rattle.cells.specs.declared.kinds.Cell.{Cell}
use Rattle.cells.specs.declared.kinds.Kind.TheVariants.{Transfer}
use Rattle.calculus.specs.Terms.{Term, var, num, succ, lam, app, pair, split, iter, free, iterators, nodes}
use Rattle.geometry.specs.Network.{Made, transfers, made, bare, cell_of}
use Rattle.geometry.specs.Memory.{laid}
use Rattle.geometry.proofs.Made.{made-length}
use Rattle.geometry.proofs.Memory.{laid-append}
use Rattle.syntax.specs.declared.program.Shape.{Shape}
use Rattle.syntax.specs.declared.program.Shape.TheVariants.{Variable, Number, Successor, Function, Application, Pair, Let, Iterator}
use Rattle.network.specs.declared.part.Part.{Part}
use Rattle.network.specs.declared.part.Count.{Count}
use Rattle.network.specs.declared.part.Next.{Next}
use Rattle.network.specs.Parts.{no_part, Holds}
use Rattle.network.specs.Laying.{own_nodes, own_iterators, Layable, LaidNodes, LaidOut}
use Rattle.network.proofs.Opened.{held, shaped}

-- nodes laid one list after another
joined : {l m : List Made} {i j : ℕ} {next mid r : Next} {a b c : List Cell} → LaidNodes l i next mid a b → LaidNodes m j mid r b c → LaidNodes (l ++ m) (i + j) next r a c
joined {l} {m} {i} {j} {next} {mid} {r} {a} {b} {c} p q =
    record {
      written = q.written ∙ (ap (laid m mid.node) p.written ∙ sym (laid-append l m next.node mid.node a p.node));
      node = omega (arith, p.node, q.node, length-append l m);
      iterator = omega (arith, p.iterator, q.iterator);
    }

-- the same nodes and as many iterators, known otherwise
known : {l m : List Made} {i j : ℕ} {next r : Next} {a b : List Cell} → LaidNodes m j next r a b → l ≡ m → i ≡ j → LaidNodes l i next r a b
known p e f = rw (e, f) p

-- a Transfer node for each variable
transfers_are : (n : ℕ) (xs : List ℕ) → transfers n xs ≡ replicate (length xs) (Transfer, n)
transfers_are n [] = refl
transfers_are n (x ∷ xs) = ap (λ l. (Transfer, n) ∷ l) (transfers_are n xs)

transfers_laid : (n : ℕ) {u : ℕ} {next r : Next} {a b : List Cell} (xs : List ℕ) → u ≡ length xs → LaidNodes (replicate u (Transfer, n)) 0 next r a b → LaidNodes (transfers n xs) 0 next r a b
transfers_laid n xs e w = known w (transfers_are n xs ∙ ap (λ v. replicate v (Transfer, n)) (sym e)) refl

-- the same node in each of u cells, which are what is written in their place
laid-replicate : (m : Made) (u k : ℕ) (cs : List Cell) → k + u ≤ length cs → laid (replicate u m) k cs ≡ take k cs ++ (replicate u (cell_of (bare m)) ++ drop (k + u) cs)
laid-replicate m zero k cs h = let e : k + 0 ≡ k = omega arith in rw e (sym (take-append-drop k cs))
laid-replicate m (suc u) k cs h =
    let x = cell_of (bare m) in
    let e : suc k + u ≡ k + suc u = omega arith in
    let b : k < suc k + u = omega arith in
    let l : k < length cs = omega arith in
    laid-replicate m u (suc k) (set cs k x) (omega (arith, length-set cs k x))
    ∙ rw (take-suc-set cs k x l, drop-set-lt (suc k + u) cs k x b, e) (append_assoc (take k cs) (x ∷ []) (replicate u x ++ drop (k + suc u) cs))

pub filled : (m : Made) (u k e : ℕ) (cs ys : List Cell) → e ≡ k + u → e ≤ length cs → ys ≡ replicate (length (mid_of k (e - k) cs)) (cell_of (bare m)) → put_mid k (e - k) cs ys ≡ laid (replicate u m) k cs
filled m u k e cs ys z h f =
    let b : k ≤ e = omega arith in
    let n : length (mid_of k (e - k) cs) ≡ u = mid_len k e cs h ∙ omega arith in
    rw (Post-is k e cs b, f, n, z) (sym (laid-replicate m u k cs (omega arith)))

-- what is laid of a construct of no, one, two or three parts: its own nodes, then the parts one behind the other. Each can be laid, and then the whole was
abbrev OwnLaid : Shape → Next → Next → List Cell → List Cell → Type 0
OwnLaid s = LaidNodes (own_nodes s) (own_iterators s)

pub record One (parts : List Part) (i j : ℕ) (s : Shape) (next : Next) (size : ℕ) (t : Term) : Type 0 where
  pub a : Term
  pub less : j < i
  pub part : {own : Next} {size' : ℕ} {cs c₁ : List Cell} → OwnLaid s next own cs c₁ → size' ≡ size → Layable parts j own size' a
  pub whole : {own r : Next} {cs c₁ c₂ : List Cell} → OwnLaid s next own cs c₁ → LaidOut a own r c₁ c₂ → LaidOut t next r cs c₂

pub record Two (parts : List Part) (i j k : ℕ) (s : Shape) (next : Next) (size : ℕ) (t : Term) : Type 0 where
  pub a : Term
  pub b : Term
  pub less : (j < i) × (k < i)
  pub left : {own : Next} {size' : ℕ} {cs c₁ : List Cell} → OwnLaid s next own cs c₁ → size' ≡ size → Layable parts j own size' a
  pub right : {own after : Next} {size' : ℕ} {cs c₁ c₂ : List Cell} → OwnLaid s next own cs c₁ → LaidOut a own after c₁ c₂ → size' ≡ size → Layable parts k after size' b
  pub whole : {own after r : Next} {cs c₁ c₂ c₃ : List Cell} → OwnLaid s next own cs c₁ → LaidOut a own after c₁ c₂ → LaidOut b after r c₂ c₃ → LaidOut t next r cs c₃

-- the step and the base have Transfer nodes behind them, as many as were counted. For the room it is enough that those of the step lie no further on
pub record Three (parts : List Part) (i j k l : ℕ) (s : Shape) (next : Next) (size : ℕ) (t : Term) : Type 0 where
  pub a : Term
  pub b : Term
  pub c : Term
  pub less : (j < i) × (k < i) × (l < i)
  pub uses : {p : Part} → get_or parts k no_part ≡ p → p.count.uses ≡ length (free b)
  pub uses' : {p : Part} → get_or parts l no_part ≡ p → p.count.uses ≡ length (free c)
  pub count : {own : Next} {size' : ℕ} {cs c₁ : List Cell} → OwnLaid s next own cs c₁ → size' ≡ size → Layable parts j own size' a
  pub step : {own n₂ : Next} {size' : ℕ} {cs c₁ c₂ : List Cell} → OwnLaid s next own cs c₁ → LaidOut a own n₂ c₁ c₂ → size' ≡ size → Layable parts k n₂ size' b
  pub step_room : {own n₂ n₃ : Next} {cs c₁ c₂ c₃ : List Cell} → OwnLaid s next own cs c₁ → LaidOut a own n₂ c₁ c₂ → LaidOut b n₂ n₃ c₂ c₃ → n₃.node + length (free b) ≤ size
  pub base : {own n₂ n₃ m₃ n₄ : Next} {u size' : ℕ} {cs c₁ c₂ c₃ d₃ c₄ : List Cell} → OwnLaid s next own cs c₁ → LaidOut a own n₂ c₁ c₂ → LaidOut b n₂ n₃ c₂ c₃ → u ≡ length (free b) → LaidNodes (replicate u (Transfer, next.iterator)) 0 m₃ n₄ d₃ c₄ → (m₃.node ≤ n₃.node) × (m₃.iterator ≤ n₃.iterator) → size' ≡ size → Layable parts l n₄ size' c
  pub base_room : {own n₂ n₃ m₃ n₄ n₅ : Next} {u : ℕ} {cs c₁ c₂ c₃ d₃ c₄ c₅ : List Cell} → OwnLaid s next own cs c₁ → LaidOut a own n₂ c₁ c₂ → LaidOut b n₂ n₃ c₂ c₃ → u ≡ length (free b) → LaidNodes (replicate u (Transfer, next.iterator)) 0 m₃ n₄ d₃ c₄ → m₃.node ≤ n₃.node → LaidOut c n₄ n₅ c₄ c₅ → n₅.node + length (free c) ≤ size
  pub whole : {own n₂ n₃ n₄ n₅ r : Next} {u u' : ℕ} {cs c₁ c₂ c₃ c₄ c₅ c₆ : List Cell} → OwnLaid s next own cs c₁ → LaidOut a own n₂ c₁ c₂ → LaidOut b n₂ n₃ c₂ c₃ → u ≡ length (free b) → LaidNodes (replicate u (Transfer, next.iterator)) 0 n₃ n₄ c₃ c₄ → LaidOut c n₄ n₅ c₄ c₅ → u' ≡ length (free c) → LaidNodes (replicate u' (Transfer, next.iterator)) 0 n₅ r c₅ c₆ → LaidOut t next r cs c₆

-- the free uses of a part, as they were counted
pub uses_are : (parts : List Part) (i : ℕ) (t : Term) (p : Part) → get_or parts i no_part ≡ p → Holds parts i t → p.count.uses ≡ length (free t)
uses_are parts i t p e h = ap (λ (q : Part). q.count.uses) (sym e) ∙ ap (λ (q : Count). q.uses) (held parts i t h)

-- and its nodes
pub nodes_are : (parts : List Part) (i : ℕ) (t : Term) (p : Part) → get_or parts i no_part ≡ p → Holds parts i t → p.count.nodes ≡ nodes t
nodes_are parts i t p e h = ap (λ (q : Part). q.count.nodes) (sym e) ∙ ap (λ (q : Count). q.nodes) (held parts i t h)

-- how many nodes were laid
long : (t : Term) {next r : Next} {a b : List Cell} → LaidOut t next r a b → r.node ≡ next.node + nodes t
long t {next} x = omega (arith, x.node, made-length t next.iterator)

module _ {parts : List Part} {i : ℕ} {next : Next} {size : ℕ} where
  -- a construct that is no iterator, with one part
  one_of : {t : Term} (a : Term) {j : ℕ} (s : Shape) (g : Layable parts i next size t) → j < i → Holds parts j a → own_iterators s ≡ 0 → nodes t ≡ length (own_nodes s) + nodes a → iterators t ≡ iterators a → ((n : ℕ) → made t n ≡ own_nodes s ++ made a n) → One parts i j s next size t
  one_of {t} a {j} s g l d none en ei em =
      record {
        a = a;
        less = l;
        part = λ o z. record { holds = d; room = omega (arith, g.room, en, o.node, z); few = omega (arith, g.few, ei, none, o.iterator) };
        whole = λ {own} o x. let z : own.iterator ≡ next.iterator = omega (arith, o.iterator, none) in known (joined o x) (rw z (em next.iterator)) (omega (arith, ei, none));
      }

  -- and with two parts
  two_of : {t : Term} (a b : Term) {j k : ℕ} (s : Shape) (g : Layable parts i next size t) → (j < i) × (k < i) → Holds parts j a → Holds parts k b → own_iterators s ≡ 0 → nodes t ≡ length (own_nodes s) + (nodes a + nodes b) → iterators t ≡ iterators a + iterators b → ((n : ℕ) → made t n ≡ own_nodes s ++ (made a n ++ made b (n + iterators a))) → Two parts i j k s next size t
  two_of {t} a b {j} {k} s g l d d' none en ei em =
      record {
        a = a;
        b = b;
        less = l;
        left = λ o z. record { holds = d; room = omega (arith, g.room, en, o.node, z); few = omega (arith, g.few, ei, none, o.iterator) };
        right = λ o x z. record { holds = d'; room = omega (arith, g.room, en, o.node, long a x, z); few = omega (arith, g.few, ei, none, o.iterator, x.iterator) };
        whole = λ {own} {after} o x y.
            (let z : own.iterator ≡ next.iterator = omega (arith, o.iterator, none) in
            let w : after.iterator ≡ next.iterator + iterators a = omega (arith, x.iterator, z) in
            known (joined o (joined x y)) (rw (w, z) (em next.iterator)) (omega (arith, ei, none)));
      }

module _ {parts : List Part} {i : ℕ} {next : Next} {size : ℕ} {t : Term} {p : Part} (e : get_or parts i no_part ≡ p) (g : Layable parts i next size t) where
  known_as : (u : Term) → t ≡ u → Layable parts i next size u
  known_as u q = subst (Layable parts i next size) q g

  -- a part that makes its own nodes, and none else
  pub none : ((x : ℕ) × (p.shape ≡ Variable x)) ⊎ ((n : ℕ) × (p.shape ≡ Number n)) → {own : Next} {cs c₁ : List Cell} → OwnLaid p.shape next own cs c₁ → LaidOut t next own cs c₁
  none (inl (x, f)) o = rw (shaped parts i t p (Variable x) e f g.holds) (rw f at o)
  none (inr (n, f)) o = rw (shaped parts i t p (Number n) e f g.holds) (rw f at o)

  pub one_successor : (j : ℕ) → p.shape ≡ Successor j → One parts i j p.shape next size t
  one_successor j f =
      let (a, q, l, d) = shaped parts i t p (Successor j) e f g.holds in
      rw (f, q) (one_of a (Successor j) (known_as (succ a) q) l d refl (omega arith) refl (λ n. refl))

  pub one_function : (x n j : ℕ) → p.shape ≡ Function x n j → One parts i j p.shape next size t
  one_function x n j f =
      let (T, a, q, l, d) = shaped parts i t p (Function x n j) e f g.holds in
      rw (f, q) (one_of a (Function x n j) (known_as (lam x T a) q) l d refl (omega arith) refl (λ n. refl))

  pub two : (j k : ℕ) → (p.shape ≡ Application j k) ⊎ ((p.shape ≡ Pair j k) ⊎ ((x : ℕ) × (y : ℕ) × (p.shape ≡ Let x y j k))) → Two parts i j k p.shape next size t
  two j k (inl f) =
      let (a, b, q, l, l', d, d') = shaped parts i t p (Application j k) e f g.holds in
      rw (f, q) (two_of a b (Application j k) (known_as (app a b) q) (l, l') d d' refl (omega arith) refl (λ n. refl))
  two j k (inr (inl f)) =
      let (a, b, q, l, l', d, d') = shaped parts i t p (Pair j k) e f g.holds in
      rw (f, q) (two_of a b (Pair j k) (known_as (pair a b) q) (l, l') d d' refl (omega arith) refl (λ n. refl))
  two j k (inr (inr (x, y, f))) =
      let (a, b, q, l, l', d, d') = shaped parts i t p (Let x y j k) e f g.holds in
      rw (f, q) (two_of a b (Let x y j k) (known_as (split x y a b) q) (l, l') d d' refl (omega arith) refl (λ n. refl))

  pub three : (j k l : ℕ) → p.shape ≡ Iterator j k l → Three parts i j k l p.shape next size t
  three j k l f =
      let (a, b, c, q, z, z', z'', d, d', d'') = shaped parts i t p (Iterator j k l) e f g.holds in
      let w = known_as (iter a b c) q in
      rw (f, q) (record {
        a = a;
        b = b;
        c = c;
        less = (z, z', z'');
        uses = λ {p = r} h. uses_are parts k b r h d';
        uses' = λ {p = r} h. uses_are parts l c r h d'';
        count = λ o y. record { holds = d; room = omega (arith, w.room, o.node, y); few = omega (arith, w.few, o.iterator) };
        step = λ o x y. record { holds = d'; room = omega (arith, w.room, o.node, long a x, y); few = omega (arith, w.few, o.iterator, x.iterator) };
        step_room = λ o x y. omega (arith, w.room, o.node, long a x, long b y);
        base = λ {u = u} o x y m v f n. record { holds = d''; room = omega (arith, w.room, o.node, long a x, long b y, m, v.node, length-replicate {A = Made} u (Transfer, next.iterator), f.0, n); few = omega (arith, w.few, o.iterator, x.iterator, y.iterator, v.iterator, f.1) };
        base_room = λ {u = u} o x y m v f y'. omega (arith, w.room, o.node, long a x, long b y, m, v.node, length-replicate {A = Made} u (Transfer, next.iterator), f, long c y');
        whole = λ {own} {n₂} {n₃} {n₄} o x y m v y' m' v'.
            (let i₁ : own.iterator ≡ suc next.iterator = omega (arith, o.iterator) in
            let i₂ : n₂.iterator ≡ suc next.iterator + iterators a = omega (arith, x.iterator, i₁) in
            let i₄ : n₄.iterator ≡ suc next.iterator + iterators a + iterators b = omega (arith, y.iterator, v.iterator, i₂) in
            known (joined o (joined x (joined (joined y (transfers_laid next.iterator (free b) m v)) (joined y' (transfers_laid next.iterator (free c) m' v'))))) (rw (i₄, i₂, i₁) refl) (omega arith));
      })

-- a construct's own nodes are among those of its term
Among : Shape → Term → Type 0
Among s t = (length (own_nodes s) ≤ nodes t) × (own_iterators s ≤ iterators t)

pub own_among : (parts : List Part) (i : ℕ) (t : Term) (p : Part) → get_or parts i no_part ≡ p → Holds parts i t → (length (own_nodes p.shape) ≤ nodes t) × (own_iterators p.shape ≤ iterators t)
unfolding Among
own_among parts i (var x) p e h = subst (λ q. Among q.shape (var x)) (sym h.is ∙ e) (omega arith, omega arith)
own_among parts i (num n) p e h = subst (λ q. Among q.shape (num n)) (sym h.is ∙ e) (omega arith, omega arith)
own_among parts i (succ t) p e (j, h, l, d) = subst (λ q. Among q.shape (succ t)) (sym h.is ∙ e) (omega arith, omega arith)
own_among parts i (lam x T t) p e (n, j, h, l, d) = subst (λ q. Among q.shape (lam x T t)) (sym h.is ∙ e) (omega arith, omega arith)
own_among parts i (app t u) p e (j, k, h, l, m, d, f) = subst (λ q. Among q.shape (app t u)) (sym h.is ∙ e) (omega arith, omega arith)
own_among parts i (pair t u) p e (j, k, h, l, m, d, f) = subst (λ q. Among q.shape (pair t u)) (sym h.is ∙ e) (omega arith, omega arith)
own_among parts i (split x y t u) p e (j, k, h, l, m, d, f) = subst (λ q. Among q.shape (split x y t u)) (sym h.is ∙ e) (omega arith, omega arith)
own_among parts i (iter t u v) p e (j, k, q, h, l, m, n, d, f, g) = subst (λ (r : Part). Among r.shape (iter t u v)) (sym h.is ∙ e) (omega arith, omega arith)
