-- The nodes made: how many, and what each is.
use Rattle.std.proofs.Common.{◌≡◌, ℕ, suc, ◌+◌, ◌<◌, ◌≤◌, List, [], ◌∷◌, ◌++◌, length, refl, ap, arith, length-append}
use Rattle.cells.specs.declared.kinds.Kind.{Kind}
use Rattle.cells.specs.declared.kinds.Kind.TheVariants.{Number, Successor, Multiplexer, Iterator, LeftCounter, RightCounter, Transfer}
use Rattle.calculus.specs.Terms.{Term, var, num, succ, lam, app, pair, split, iter, free, iterators, nodes}
use Rattle.geometry.specs.Network.{Made, transfers, made}
use Rattle.geometry.specs.Derivations.{EachNumber}

pub transfers-length : (i : ℕ) (xs : List ℕ) → length (transfers i xs) ≡ length xs
transfers-length i [] = refl
transfers-length i (x ∷ xs) = ap suc (transfers-length i xs)

both-length : (l m : List Made) (a b : ℕ) → length l ≡ a → length m ≡ b → length (l ++ m) ≡ a + b
both-length l m a b e f = omega (arith, length-append l m)

-- as many nodes are made as the count of nodes says
pub made-length : (t : Term) (i : ℕ) → length (made t i) ≡ nodes t
made-length (var x) i = refl
made-length (num n) i = refl
made-length (succ t) i = ap suc (made-length t i)
made-length (lam x T t) i = ap suc (made-length t i)
made-length (app t u) i = ap suc (both-length (made t i) (made u (i + iterators t)) _ _ (made-length t i) (made-length u (i + iterators t)))
made-length (pair t u) i = ap suc (both-length (made t i) (made u (i + iterators t)) _ _ (made-length t i) (made-length u (i + iterators t)))
made-length (split x y t u) i = ap suc (both-length (made t i) (made u (i + iterators t)) _ _ (made-length t i) (made-length u (i + iterators t)))
made-length (iter t u v) i =
    let s = suc i + iterators t in
    let step = both-length (made u s) (transfers i (free u)) _ _ (made-length u s) (transfers-length i (free u)) in
    let base = both-length (made v (s + iterators u)) (transfers i (free v)) _ _ (made-length v (s + iterators u)) (transfers-length i (free v)) in
    omega (arith, both-length (made t (suc i)) _ _ _ (made-length t (suc i)) (both-length _ _ _ _ step base))

-- P holds of each node made
abbrev pub Each : (Kind → ℕ → Type 0) → List Made → Type 0
Each P [] = Unit {0}
Each P (m ∷ ms) = P m.0 m.1 × Each P ms

pub Each-append : (P : Kind → ℕ → Type 0) (l m : List Made) → Each P l → Each P m → Each P (l ++ m)
Each-append P [] m g h = h
Each-append P (x ∷ l) m g h = (g.0, Each-append P l m g.1 h)

Each-transfers : (P : Kind → ℕ → Type 0) (i : ℕ) (xs : List ℕ) → P Transfer i → Each P (transfers i xs)
Each-transfers P i [] h = tt
Each-transfers P i (x ∷ xs) h = (h, Each-transfers P i xs h)

-- what P must hold of, in a term whose iterators are numbered from i on
pub record Suits (P : Kind → ℕ → Type 0) (i n : ℕ) : Type 0 where
  pub successor : P Successor 0
  pub multiplexer : P Multiplexer 0
  pub iterator : 0 < n → P Iterator 0 × P LeftCounter 0 × P RightCounter 0
  pub transfer : (j : ℕ) → i ≤ j → j < i + n → P Transfer j

narrow : (P : Kind → ℕ → Type 0) (i n j m : ℕ) → i ≤ j → j + m ≤ i + n → Suits P i n → Suits P j m
narrow P i n j m a b s = record {
  successor = s.successor;
  multiplexer = s.multiplexer;
  iterator = λ h. s.iterator (omega arith);
  transfer = λ k h g. s.transfer k (omega arith) (omega arith);
}

-- two parts, the second with the iterators after those of the first
each_two : (P : Kind → ℕ → Type 0) (t u : Term) (i : ℕ) → Suits P i (iterators t + iterators u) → (Suits P i (iterators t) → Each P (made t i)) → (Suits P (i + iterators t) (iterators u) → Each P (made u (i + iterators t))) → Each P (made t i ++ made u (i + iterators t))
each_two P t u i s f g = Each-append P (made t i) _ (f (narrow P i _ i _ (omega arith) (omega arith) s)) (g (narrow P i _ _ _ (omega arith) (omega arith) s))

pub made_each : (P : Kind → ℕ → Type 0) (t : Term) (i : ℕ) → Suits P i (iterators t) → EachNumber (P Number) t → Each P (made t i)
made_each P (var x) i s h = tt
made_each P (num n) i s h = (h, tt)
made_each P (succ t) i s h = (s.successor, made_each P t i s h)
made_each P (lam x T t) i s h = (s.multiplexer, made_each P t i s h)
made_each P (app t u) i s h = (s.multiplexer, each_two P t u i s (λ a. made_each P t i a h.0) (λ a. made_each P u (i + iterators t) a h.1))
made_each P (pair t u) i s h = (s.multiplexer, each_two P t u i s (λ a. made_each P t i a h.0) (λ a. made_each P u (i + iterators t) a h.1))
made_each P (split x y t u) i s h = (s.multiplexer, each_two P t u i s (λ a. made_each P t i a h.0) (λ a. made_each P u (i + iterators t) a h.1))
made_each P (iter t u v) i s h =
    let own = s.iterator (omega arith) in
    let crossing = s.transfer i (omega arith) (omega arith) in
    let a = made_each P t (suc i) (narrow P i _ _ _ (omega arith) (omega arith) s) h.0 in
    let b = made_each P u (suc i + iterators t) (narrow P i _ _ _ (omega arith) (omega arith) s) h.1 in
    let c = made_each P v (suc i + iterators t + iterators u) (narrow P i _ _ _ (omega arith) (omega arith) s) h.2 in
    (own.0, (own.1, (own.2, (s.multiplexer, Each-append P (made t (suc i)) _ a (Each-append P _ _ (Each-append P _ _ b (Each-transfers P i (free u) crossing)) (Each-append P _ _ c (Each-transfers P i (free v) crossing)))))))

pub every_number : (P : ℕ → Type 0) (t : Term) → ((n : ℕ) → P n) → EachNumber P t
every_number P (var x) h = tt
every_number P (num n) h = h n
every_number P (succ t) h = every_number P t h
every_number P (lam x T t) h = every_number P t h
every_number P (app t u) h = (every_number P t h, every_number P u h)
every_number P (pair t u) h = (every_number P t h, every_number P u h)
every_number P (split x y t u) h = (every_number P t h, every_number P u h)
every_number P (iter t u v) h = (every_number P t h, every_number P u h, every_number P v h)
