-- What the nodes are: plain kinds without iterator, numbers of the term, and a network read back from memory.
use Rattle.std.proofs.Common.{◌≡◌, ℕ, suc, ◌+◌, ◌≤◌, List, [], ◌∷◌, ◌++◌, map, Some, refl, ap, ◌∙◌, append-nil, arith}
use Rattle.cells.specs.declared.kinds.Kind.{Kind}
use Rattle.cells.specs.declared.kinds.Kind.TheVariants.{Root, Number, Successor, Multiplexer, Iterator, LeftCounter, RightCounter, Transfer}
use Rattle.cells.specs.Ports.{Node, node_at, kind_of, node_of, nodes_of}
use Rattle.cells.proofs.Ports.{kind_of_lem}
use Rattle.calculus.specs.Terms.{Term, var, num, succ, lam, app, pair, split, iter, free, iterators}
use Rattle.geometry.specs.Labels.{with_number, number_values, Plain, AllPlain}
use Rattle.geometry.specs.Network.{Made, transfers, made, all_made, network, number_of, cell_of}
use Rattle.geometry.specs.Derivations.{numbers, NumbersWithin}
use Rattle.geometry.proofs.Made.{made_each, every_number}
use Rattle.geometry.proofs.Wired.{Bears}
use Rattle.geometry.proofs.Nodes.{bears_network, each_kind}

abbrev Unmixed : Kind → ℕ → Type 0
Unmixed κ v = Plain κ

pub plain : (t : Term) → iterators t ≡ 0 → AllPlain (network t)
plain t z k κ h =
    each_kind Unmixed (network t) (all_made t) (bears_network t) (
      tt,
      made_each Unmixed t 1 (record {
        successor = tt;
        multiplexer = tt;
        iterator = λ g. absurd (omega arith);
        transfer = λ j a b. absurd (omega arith);
      }) (every_number (Unmixed Number) t (λ n. tt)),
    ) k κ h

-- a number is at most b
abbrev Small : ℕ → Kind → ℕ → Type 0
Small b Root v = Unit {0}
Small b Number v = v ≤ b
Small b Successor v = Unit {0}
Small b Multiplexer v = Unit {0}
Small b Iterator v = Unit {0}
Small b LeftCounter v = Unit {0}
Small b RightCounter v = Unit {0}
Small b Transfer v = Unit {0}

pub numbers_kept : (t : Term) (b : ℕ) → NumbersWithin b t → (k : ℕ) → (node_at (network t) k).kind ≡ Some Number → (node_at (network t) k).value ≤ b
numbers_kept t b w k h =
    each_kind (Small b) (network t) (all_made t) (bears_network t) (
      tt,
      made_each (Small b) t 1 (record {
        successor = tt;
        multiplexer = tt;
        iterator = λ g. (tt, tt, tt);
        transfer = λ j c d. tt;
      }) w,
    ) k Number h

-- the numbers among the nodes made
abbrev made_numbers : List Made → List ℕ
made_numbers [] = []
made_numbers (m ∷ ms) = with_number (Some m.0) m.1 (made_numbers ms)

with_number_append : (κ : Kind) (v : ℕ) (xs ys : List ℕ) → with_number (Some κ) v (xs ++ ys) ≡ with_number (Some κ) v xs ++ ys
with_number_append Root v xs ys = refl
with_number_append Number v xs ys = refl
with_number_append Successor v xs ys = refl
with_number_append Multiplexer v xs ys = refl
with_number_append Iterator v xs ys = refl
with_number_append LeftCounter v xs ys = refl
with_number_append RightCounter v xs ys = refl
with_number_append Transfer v xs ys = refl

numbers-append : (l m : List Made) (a b : List ℕ) → made_numbers l ≡ a → made_numbers m ≡ b → made_numbers (l ++ m) ≡ a ++ b
numbers-append [] m a b e f = f ∙ ap (λ c. c ++ b) e
numbers-append (x ∷ l) m a b e f =
    ap (with_number (Some x.0) x.1) (numbers-append l m (made_numbers l) b refl f)
    ∙ with_number_append x.0 x.1 (made_numbers l) b ∙ ap (λ c. c ++ b) e

no_numbers : (i : ℕ) (xs : List ℕ) → made_numbers (transfers i xs) ≡ []
no_numbers i [] = refl
no_numbers i (x ∷ xs) = no_numbers i xs

-- a step or a base with its Transfer nodes
part_numbers : (l : List Made) (i : ℕ) (xs a : List ℕ) → made_numbers l ≡ a → made_numbers (l ++ transfers i xs) ≡ a
part_numbers l i xs a e = numbers-append l (transfers i xs) a [] e (no_numbers i xs) ∙ append-nil a

made-numbers : (t : Term) (i : ℕ) → made_numbers (made t i) ≡ numbers t
made-numbers (var x) i = refl
made-numbers (num n) i = refl
made-numbers (succ t) i = made-numbers t i
made-numbers (lam x T t) i = made-numbers t i
made-numbers (app t u) i = numbers-append (made t i) (made u (i + iterators t)) _ _ (made-numbers t i) (made-numbers u (i + iterators t))
made-numbers (pair t u) i = numbers-append (made t i) (made u (i + iterators t)) _ _ (made-numbers t i) (made-numbers u (i + iterators t))
made-numbers (split x y t u) i = numbers-append (made t i) (made u (i + iterators t)) _ _ (made-numbers t i) (made-numbers u (i + iterators t))
made-numbers (iter t u v) i =
    let s = suc i + iterators t in
    let step = part_numbers (made u s) i (free u) (numbers u) (made-numbers u s) in
    let base = part_numbers (made v (s + iterators u)) i (free v) (numbers v) (made-numbers v (s + iterators u)) in
    numbers-append (made t (suc i)) _ (numbers t) (numbers u ++ numbers v) (made-numbers t (suc i)) (numbers-append (made u s ++ transfers i (free u)) (made v (s + iterators u) ++ transfers i (free v)) (numbers u) (numbers v) step base)

bears_numbers : (ns : List Node) (ms : List Made) → Bears ns ms → number_values ns ≡ made_numbers ms
bears_numbers [] [] b = refl
bears_numbers [] (m ∷ ms) b = absurd b
bears_numbers (n ∷ ns) [] b = absurd b
bears_numbers (n ∷ ns) (m ∷ ms) b = rw (b.0, b.1, bears_numbers ns ms b.2) refl

pub numbers-listed : (t : Term) → number_values (network t) ≡ numbers t
numbers-listed t = bears_numbers (network t) (all_made t) (bears_network t) ∙ made-numbers t 1

node_back : (n : Node) (κ : Kind) → n.kind ≡ Some κ → node_of (cell_of n) ≡ n
node_back n κ e = λ i. record { kind = same i; value = n.value; one = n.one; two = n.two; three = n.three }
  where
    same : kind_of (number_of n.kind) ≡ n.kind
    same = rw e (kind_of_lem κ)

nodes-back : (ns : List Node) (ms : List Made) → Bears ns ms → nodes_of (map cell_of ns) ≡ ns
nodes-back [] [] b = refl
nodes-back [] (m ∷ ms) b = absurd b
nodes-back (n ∷ ns) [] b = absurd b
nodes-back (n ∷ ns) (m ∷ ms) b = rw (node_back n m.0 b.0, nodes-back ns ms b.2) refl

pub read_back : (t : Term) → nodes_of (map cell_of (network t)) ≡ network t
read_back t = nodes-back (network t) (all_made t) (bears_network t)
