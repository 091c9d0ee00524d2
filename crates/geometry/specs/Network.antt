-- The network of a term: its nodes, numbered as they are made, and the wires between their ports. Assumes nothing.
use Rattle.std.specs.Prelude.{◌≡◌, ℕ, suc, ◌+◌, ◌*◌, ◌/◌, cond, List, [], ◌∷◌, ◌++◌, map, length, Some, None, Option, ◌==◌, slice_set}
use Rattle.cells.specs.declared.kinds.Kind.{Kind}
use Rattle.cells.specs.declared.kinds.Kind.TheVariants.{Root, Number, Successor, Multiplexer, Iterator, LeftCounter, RightCounter, Transfer}
use Rattle.cells.specs.declared.kinds.Port.{Port}
use Rattle.cells.specs.declared.kinds.Port.TheVariants.{First, Second, Third}
use Rattle.cells.specs.declared.kinds.Cell.{Cell}
use Rattle.cells.specs.Ports.{Node, kind_number, absent, place_of, node_at, link}
use Rattle.calculus.specs.Terms.{Term, var, num, succ, lam, app, pair, split, iter, free, iterators, nodes}

-- a node as it is made: its kind and its value
abbrev pub Made : Type 0
Made = Kind × ℕ

-- a Transfer node for each variable, with its iterator's number
abbrev pub transfers : ℕ → List ℕ → List Made
transfers i [] = []
transfers i (x ∷ xs) = (Transfer, i) ∷ transfers i xs

-- the nodes of a term in the order of their numbers: a construct's own, then those of its parts from left to right.
-- An iterator makes I, c, c', m; and after its step, and again after its base, a Transfer node for each variable free in it.
-- Iterators are numbered in the order met, an iterator before its parts; the next one has the number i.
abbrev pub made : Term → ℕ → List Made
made (var x) i = []
made (num n) i = (Number, n) ∷ []
made (succ t) i = (Successor, 0) ∷ made t i
made (lam x T t) i = (Multiplexer, 0) ∷ made t i
made (app t u) i = (Multiplexer, 0) ∷ (made t i ++ made u (i + iterators t))
made (pair t u) i = (Multiplexer, 0) ∷ (made t i ++ made u (i + iterators t))
made (split x y t u) i = (Multiplexer, 0) ∷ (made t i ++ made u (i + iterators t))
made (iter t u v) i =
    let s = suc i + iterators t in
    let count = made t (suc i) in
    let step = made u s ++ transfers i (free u) in
    let base = made v (s + iterators u) ++ transfers i (free v) in
    (Iterator, 0) ∷ ((LeftCounter, 0) ∷ ((RightCounter, 0) ∷ ((Multiplexer, 0) ∷ (count ++ (step ++ base)))))

-- the ports of node k
abbrev pub l1 : ℕ → ℕ
l1 k = 3 * k

abbrev pub l2 : ℕ → ℕ
l2 k = 3 * k + 1

abbrev pub l3 : ℕ → ℕ
l3 k = 3 * k + 2

-- the port at which each variable's wire starts
abbrev pub Env : Type 0
Env = ℕ → ℕ

abbrev pub put : Env → ℕ → ℕ → Env
put e x p y = cond (x == y) p (e y)

-- a wire, by its two ends
abbrev pub Wire : Type 0
Wire = ℕ × ℕ

-- P holds of each of the variables
abbrev pub EachVariable : (ℕ → Type 0) → List ℕ → Type 0
EachVariable P [] = Unit {0}
EachVariable P (x ∷ xs) = P x × EachVariable P xs

-- from outside, the variables' wires go to l1 of the Transfer nodes j, j + 1, ...
abbrev pub crossings : List ℕ → ℕ → Env → List Wire
crossings [] j e = []
crossings (x ∷ xs) j e = (e x, l1 j) ∷ crossings xs (suc j) e

-- inside, the variables start at l2 of these
abbrev pub entered : List ℕ → ℕ → Env → Env
entered [] j e = e
entered (x ∷ xs) j e = entered xs (suc j) (put e x (l2 j))

-- the wires of a term whose nodes are numbered from k on, whose root is wired to the port r, and whose variables start where e says
--   number        n: root l1
--   S t           S: root l2, t at l1
--   variable      the wire from where it starts to its use
--   \x:T.t        m: root l1, t at l2, x at l3
--   (t u)         m: t at l1, root l2, u at l3
--   <t,u>         m: root l1, t at l2, u at l3
--   let <x,y> = t in u    m: t at l1, x at l2, y at l3; the root is that of u
--   iter t u v    I, c, c', m: root I.l2, t at I.l1; I.l3 meets c.l2; c.l1 meets c'.l1; c'.l3 meets m.l2; c.l3 meets m.l3; u at m.l1; v at c'.l2;
--                 a variable free in u, or in v, passes a Transfer node: l1 outside, l2 inside
abbrev pub wires : Term → ℕ → ℕ → Env → List Wire
wires (var x) k r e = (e x, r) ∷ []
wires (num n) k r e = (r, l1 k) ∷ []
wires (succ t) k r e = (r, l2 k) ∷ wires t (suc k) (l1 k) e
wires (lam x T t) k r e = (r, l1 k) ∷ wires t (suc k) (l2 k) (put e x (l3 k))
wires (app t u) k r e = (r, l2 k) ∷ (wires t (suc k) (l1 k) e ++ wires u (suc k + nodes t) (l3 k) e)
wires (pair t u) k r e = (r, l1 k) ∷ (wires t (suc k) (l2 k) e ++ wires u (suc k + nodes t) (l3 k) e)
wires (split x y t u) k r e = wires t (suc k) (l1 k) e ++ wires u (suc k + nodes t) r (put (put e x (l2 k)) y (l3 k))
wires (iter t u v) k r e =
    let c = suc k in
    let c' = suc c in
    let m = suc c' in
    let s = suc m + nodes t in
    let b = s + nodes u + length (free u) in
    let own = (r, l2 k) ∷ ((l3 k, l2 c) ∷ ((l1 c, l1 c') ∷ ((l3 c', l2 m) ∷ ((l3 c, l3 m) ∷ [])))) in
    let count = wires t (suc m) (l1 k) e in
    let step = crossings (free u) (s + nodes u) e ++ wires u s (l1 m) (entered (free u) (s + nodes u) e) in
    let base = crossings (free v) (b + nodes v) e ++ wires v b (l2 c') (entered (free v) (b + nodes v) e) in
    own ++ (count ++ (step ++ base))

-- the node with another link at a port
abbrev pub relinked : Node → Port → ℕ → Node
relinked n First q = record { kind = n.kind; value = n.value; one = q; two = n.two; three = n.three }
relinked n Second q = record { kind = n.kind; value = n.value; one = n.one; two = q; three = n.three }
relinked n Third q = record { kind = n.kind; value = n.value; one = n.one; two = n.two; three = q }

-- the nodes with q as the link of the port p
abbrev pub link_to : List Node → ℕ → ℕ → List Node
link_to ns p q = slice_set ns (p / 3) (relinked (node_at ns (p / 3)) (place_of p) q)

-- the nodes with the two ends of each wire linked to each other
abbrev pub wired : List Wire → List Node → List Node
wired [] ns = ns
wired (w ∷ ws) ns = wired ws (link_to (link_to ns w.0 w.1) w.1 w.0)

-- the two ends of each wire are each other's links
abbrev pub Kept : List Node → List Wire → Type 0
Kept ns [] = Unit {0}
Kept ns (w ∷ ws) = (link ns w.0 ≡ w.1) × (link ns w.1 ≡ w.0) × Kept ns ws

-- a node that is not yet linked
abbrev pub bare : Made → Node
bare m = record { kind = Some m.0; value = m.1; one = absent; two = absent; three = absent }

-- all nodes of the network: the root has the number 0, and the first iterator the number 1
abbrev pub all_made : Term → List Made
all_made t = (Root, 0) ∷ made t 1

-- a closed term needs no environment
abbrev pub nowhere : Env
nowhere x = 0

abbrev pub all_wires : Term → List Wire
all_wires t = wires t 1 (l1 0) nowhere

-- the network of a closed term: node 0 is the root, and the term's root is wired to its l1
unfoldable pub network : Term → List Node
network t = wired (all_wires t) (map bare (all_made t))

-- a node as memory holds it; 8 is no kind's number
abbrev pub number_of : Option Kind → ℕ
number_of None = 8
number_of (Some κ) = kind_number κ

abbrev pub cell_of : Node → Cell
cell_of n = record { kind = number_of n.kind; value = n.value; links = n.one ∷ (n.two ∷ (n.three ∷ [])) }
