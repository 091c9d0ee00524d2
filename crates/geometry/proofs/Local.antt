-- Where the wires of a term lie: they depend on where its free variables start, and go no further than its nodes.
use Rattle.std.proofs.Common.{◌≡◌, ℕ, suc, ◌+◌, ◌*◌, ◌<◌, ◌≤◌, Bool, true, false, cond, eqb, List, [], ◌∷◌, ◌++◌, length, refl, subst, arith}
use Rattle.std.proofs.lemmas.Bool.{eq-eqb, eqb-true}
use Rattle.calculus.specs.Terms.{Term, var, num, succ, lam, app, pair, split, iter, free, without, nodes}
use Rattle.geometry.specs.Network.{l1, l2, l3, Env, put, Wire, EachVariable, crossings, entered, wires}

pub each_left : (P : ℕ → Type 0) (xs ys : List ℕ) → EachVariable P (xs ++ ys) → EachVariable P xs
each_left P [] ys h = tt
each_left P (x ∷ xs) ys h = (h.0, each_left P xs ys h.1)

pub each_right : (P : ℕ → Type 0) (xs ys : List ℕ) → EachVariable P (xs ++ ys) → EachVariable P ys
each_right P [] ys h = h
each_right P (x ∷ xs) ys h = each_right P xs ys h.1

pub each_map : (P Q : ℕ → Type 0) → ((y : ℕ) → P y → Q y) → (xs : List ℕ) → EachVariable P xs → EachVariable Q xs
each_map P Q f [] h = tt
each_map P Q f (x ∷ xs) h = (f x h.0, each_map P Q f xs h.1)

-- under a binder of x
pub each_bound : (P Q : ℕ → Type 0) (x : ℕ) → Q x → ((y : ℕ) → P y → Q y) → (xs : List ℕ) → EachVariable P (without x xs) → EachVariable Q xs
each_bound P Q x q f [] h = tt
each_bound P Q x q f (y ∷ ys) h = go (each_bound P Q x q f ys) (eqb x y) refl
  where
    go : (EachVariable P (without x ys) → EachVariable Q ys) → (b : Bool) → eqb x y ≡ b → EachVariable Q (y ∷ ys)
    go k true e = (subst Q (eqb-true x y e) q, k (rw e at h))
    go k false e = let g : P y × EachVariable P (without x ys) = rw e at h in (f y g.0, k g.1)

-- R ties the port at which e starts y to that at which f does
abbrev Tied : (ℕ → ℕ → Type 0) → Env → Env → ℕ → Type 0
Tied R e f y = R (e y) (f y)

tied_put : (R : ℕ → ℕ → Type 0) (e f : Env) (x p q : ℕ) → R p q → (y : ℕ) → Tied R e f y → Tied R (put e x p) (put f x q) y
tied_put R e f x p q g y h = by (eqb x y)
  where
    by : (b : Bool) → R (cond b p (e y)) (cond b q (f y))
    by true = g
    by false = h

tied_bound : (R : ℕ → ℕ → Type 0) (e f : Env) (x p q : ℕ) → R p q → (xs : List ℕ) → EachVariable (Tied R e f) (without x xs) → EachVariable (Tied R (put e x p) (put f x q)) xs
tied_bound R e f x p q g xs h = each_bound (Tied R e f) (Tied R (put e x p) (put f x q)) x (rw (eq-eqb x x refl) g) (tied_put R e f x p q g) xs h

-- two lists of wires whose ends are tied one to one
abbrev TiedWires : (ℕ → ℕ → Type 0) → List Wire → List Wire → Type 0
TiedWires R [] [] = Unit {0}
TiedWires R [] (w ∷ ws) = ⊥
TiedWires R (v ∷ vs) [] = ⊥
TiedWires R (v ∷ vs) (w ∷ ws) = R v.0 w.0 × R v.1 w.1 × TiedWires R vs ws

tied_append : (R : ℕ → ℕ → Type 0) (v w vs ws : List Wire) → TiedWires R v w → TiedWires R vs ws → TiedWires R (v ++ vs) (w ++ ws)
tied_append R [] [] vs ws g h = h
tied_append R [] (y ∷ w) vs ws g h = absurd g
tied_append R (x ∷ v) [] vs ws g h = absurd g
tied_append R (x ∷ v) (y ∷ w) vs ws g h = (g.0, g.1, tied_append R v w vs ws g.2 h)

-- a step or a base with its variables through Transfer nodes
abbrev through : Term → ℕ → ℕ → Env → List Wire
through u k r e = crossings (free u) (k + nodes u) e ++ wires u k r (entered (free u) (k + nodes u) e)

-- where each port of the first n nodes is tied to itself, a term's wires are tied if its root and its free variables are
module _ (R : ℕ → ℕ → Type 0) (n : ℕ) (own : (p : ℕ) → p < 3 * n → R p p) where
  tied_entered : (xs : List ℕ) (j : ℕ) (e f : Env) (ys : List ℕ) → j + length xs ≤ n → EachVariable (Tied R e f) ys → EachVariable (Tied R (entered xs j e) (entered xs j f)) ys
  tied_entered [] j e f ys l h = h
  tied_entered (x ∷ xs) j e f ys l h =
      tied_entered xs (suc j) (put e x (l2 j)) (put f x (l2 j)) ys (omega arith)
      (each_map (Tied R e f) (Tied R (put e x (l2 j)) (put f x (l2 j))) (tied_put R e f x (l2 j) (l2 j) (own (l2 j) (omega arith))) ys h)

  tied_crossings : (xs : List ℕ) (j : ℕ) (e f : Env) → j + length xs ≤ n → EachVariable (Tied R e f) xs → TiedWires R (crossings xs j e) (crossings xs j f)
  tied_crossings [] j e f l h = tt
  tied_crossings (x ∷ xs) j e f l h = (h.0, own (l1 j) (omega arith), tied_crossings xs (suc j) e f (omega arith) h.1)

  tied_through : (u : Term) (k r : ℕ) (e f : Env) → k + nodes u + length (free u) ≤ n → EachVariable (Tied R e f) (free u) → TiedWires R (wires u k r (entered (free u) (k + nodes u) e)) (wires u k r (entered (free u) (k + nodes u) f)) → TiedWires R (through u k r e) (through u k r f)
  tied_through u k r e f l h inner =
      tied_append R (crossings (free u) (k + nodes u) e) (crossings (free u) (k + nodes u) f) (wires u k r (entered (free u) (k + nodes u) e)) (wires u k r (entered (free u) (k + nodes u) f))
      (tied_crossings (free u) (k + nodes u) e f l h) inner

  tied : (t : Term) (k r s : ℕ) (e f : Env) → k + nodes t ≤ n → R r s → EachVariable (Tied R e f) (free t) → TiedWires R (wires t k r e) (wires t k s f)
  tied (var x) k r s e f l g h = (h.0, g, tt)
  tied (num v) k r s e f l g h = (g, own (l1 k) (omega arith), tt)
  tied (succ t) k r s e f l g h = (g, own (l2 k) (omega arith), tied t (suc k) (l1 k) (l1 k) e f (omega arith) (own (l1 k) (omega arith)) h)
  tied (lam x T t) k r s e f l g h =
      let arg = own (l3 k) (omega arith) in
      (g, own (l1 k) (omega arith), tied t (suc k) (l2 k) (l2 k) (put e x (l3 k)) (put f x (l3 k)) (omega arith) (own (l2 k) (omega arith)) (tied_bound R e f x (l3 k) (l3 k) arg (free t) h))
  tied (app t u) k r s e f l g h =
      let fun = tied t (suc k) (l1 k) (l1 k) e f (omega arith) (own (l1 k) (omega arith)) (each_left (Tied R e f) (free t) (free u) h) in
      let arg = tied u (suc k + nodes t) (l3 k) (l3 k) e f (omega arith) (own (l3 k) (omega arith)) (each_right (Tied R e f) (free t) (free u) h) in
      (g, own (l2 k) (omega arith), tied_append R (wires t (suc k) (l1 k) e) (wires t (suc k) (l1 k) f) _ _ fun arg)
  tied (pair t u) k r s e f l g h =
      let left = tied t (suc k) (l2 k) (l2 k) e f (omega arith) (own (l2 k) (omega arith)) (each_left (Tied R e f) (free t) (free u) h) in
      let right = tied u (suc k + nodes t) (l3 k) (l3 k) e f (omega arith) (own (l3 k) (omega arith)) (each_right (Tied R e f) (free t) (free u) h) in
      (g, own (l1 k) (omega arith), tied_append R (wires t (suc k) (l2 k) e) (wires t (suc k) (l2 k) f) _ _ left right)
  tied (split x y t u) k r s e f l g h =
      let inner = without x (without y (free u)) in
      let e₁ = put e x (l2 k) in
      let f₁ = put f x (l2 k) in
      let first = tied_bound R e f x (l2 k) (l2 k) (own (l2 k) (omega arith)) (without y (free u)) (each_right (Tied R e f) (free t) inner h) in
      let bound = tied_bound R e₁ f₁ y (l3 k) (l3 k) (own (l3 k) (omega arith)) (free u) first in
      let whole = tied t (suc k) (l1 k) (l1 k) e f (omega arith) (own (l1 k) (omega arith)) (each_left (Tied R e f) (free t) inner h) in
      tied_append R (wires t (suc k) (l1 k) e) (wires t (suc k) (l1 k) f) _ _ whole (tied u (suc k + nodes t) r s (put e₁ y (l3 k)) (put f₁ y (l3 k)) (omega arith) g bound)
  tied (iter t u v) k r s e f l g h =
      let parts = each_right (Tied R e f) (free t) (free u ++ free v) h in
      let hu = each_left (Tied R e f) (free u) (free v) parts in
      let hv = each_right (Tied R e f) (free u) (free v) parts in
      let c = suc k in
      let c' = suc c in
      let m = suc c' in
      let i = suc m + nodes t in
      let b = i + nodes u + length (free u) in
      let count = tied t (suc m) (l1 k) (l1 k) e f (omega arith) (own (l1 k) (omega arith)) (each_left (Tied R e f) (free t) (free u ++ free v) h) in
      let inner-step = tied u i (l1 m) (l1 m) (entered (free u) (i + nodes u) e) (entered (free u) (i + nodes u) f) (omega arith) (own (l1 m) (omega arith)) (tied_entered (free u) (i + nodes u) e f (free u) (omega arith) hu) in
      let inner-base = tied v b (l2 c') (l2 c') (entered (free v) (b + nodes v) e) (entered (free v) (b + nodes v) f) (omega arith) (own (l2 c') (omega arith)) (tied_entered (free v) (b + nodes v) e f (free v) (omega arith) hv) in
      let step = tied_through u i (l1 m) e f (omega arith) hu inner-step in
      let base = tied_through v b (l2 c') e f (omega arith) hv inner-base in
      let both = tied_append R (through u i (l1 m) e) (through u i (l1 m) f) (through v b (l2 c') e) (through v b (l2 c') f) step base in
      let rest = tied_append R (wires t (suc m) (l1 k) e) (wires t (suc m) (l1 k) f) (through u i (l1 m) e ++ through v b (l2 c') e) (through u i (l1 m) f ++ through v b (l2 c') f) count both in
      (g, own (l2 k) (omega arith), (own (l3 k) (omega arith), own (l2 c) (omega arith), (own (l1 c) (omega arith), own (l1 c') (omega arith), (own (l3 c') (omega arith), own (l2 m) (omega arith), (own (l3 c) (omega arith), own (l3 m) (omega arith), rest)))))

-- e and f start y at the same port
abbrev pub Same : Env → Env → ℕ → Type 0
Same e f y = e y ≡ f y

abbrev Equal : ℕ → ℕ → Type 0
Equal p q = p ≡ q

pub same_bound : (e f : Env) (x p : ℕ) (xs : List ℕ) → EachVariable (Same e f) (without x xs) → EachVariable (Same (put e x p) (put f x p)) xs
same_bound e f x p xs h = tied_bound Equal e f x p p refl xs h

pub same-entered : (xs : List ℕ) (j : ℕ) (e f : Env) (ys : List ℕ) → EachVariable (Same e f) ys → EachVariable (Same (entered xs j e) (entered xs j f)) ys
same-entered xs j e f ys h = tied_entered Equal (j + length xs) (λ p l. refl) xs j e f ys (omega arith) h

same-wires : (v w : List Wire) → TiedWires Equal v w → v ≡ w
same-wires [] [] h = refl
same-wires [] (y ∷ w) h = absurd h
same-wires (x ∷ v) [] h = absurd h
same-wires (x ∷ v) (y ∷ w) h = by x.0 y.0 x.1 y.1 v w h.0 h.1 (same-wires v w h.2)
  where
    by : (a b c d : ℕ) (v w : List Wire) → a ≡ b → c ≡ d → v ≡ w → ◌≡◌ {A = List Wire} ((a, c) ∷ v) ((b, d) ∷ w)
    by a b c d v w p q r = rw (p, q, r) refl

pub same-crossings : (xs : List ℕ) (j : ℕ) (e f : Env) → EachVariable (Same e f) xs → crossings xs j e ≡ crossings xs j f
same-crossings xs j e f h = same-wires _ _ (tied_crossings Equal (j + length xs) (λ p l. refl) xs j e f (omega arith) h)

pub local : (t : Term) (k r : ℕ) (e f : Env) → EachVariable (Same e f) (free t) → wires t k r e ≡ wires t k r f
local t k r e f h = same-wires _ _ (tied Equal (k + nodes t) (λ p l. refl) t k r r e f (omega arith) refl h)

-- the port is one of the first n nodes, whatever it is tied to
abbrev Low : ℕ → ℕ → ℕ → Type 0
Low n p q = p < 3 * n

-- e starts y at a port of the first n nodes
abbrev pub Under : ℕ → Env → ℕ → Type 0
Under n e y = e y < 3 * n

pub under_bound : (n : ℕ) (e : Env) (x p : ℕ) → p < 3 * n → (xs : List ℕ) → EachVariable (Under n e) (without x xs) → EachVariable (Under n (put e x p)) xs
under_bound n e x p g xs h = tied_bound (Low n) e e x p p g xs h

pub under_entered : (n : ℕ) (xs : List ℕ) (j : ℕ) (e : Env) (ys : List ℕ) → j + length xs ≤ n → EachVariable (Under n e) ys → EachVariable (Under n (entered xs j e)) ys
under_entered n xs j e ys l h = tied_entered (Low n) n (λ p g. g) xs j e e ys l h

-- each wire ends at ports of the first n nodes
abbrev pub Within : ℕ → List Wire → Type 0
Within n ws = TiedWires (Low n) ws ws

pub within : (n : ℕ) (t : Term) (k r : ℕ) (e : Env) → k + nodes t ≤ n → r < 3 * n → EachVariable (Under n e) (free t) → Within n (wires t k r e)
within n t k r e l g h = tied (Low n) n (λ p q. q) t k r r e e l g h
