-- Sums over the nodes: the weight, and the S nodes.
use Rattle.std.proofs.Common.{◌≡◌, ℕ, suc, ◌+◌, List, [], ◌∷◌, ◌++◌, Some, refl, arith}
use Rattle.cells.specs.declared.kinds.Kind.{Kind}
use Rattle.cells.specs.Ports.{Node}
use Rattle.calculus.specs.Types.{Ty, N, naturals}
use Rattle.calculus.specs.Terms.{Term, var, num, succ, lam, app, pair, split, iter, free, iterators, successors}
use Rattle.calculus.specs.Typing.{Ctx, Pick, here, there, Typed, ty_var, ty_num, ty_succ, ty_lam, ty_app, ty_pair, ty_split, ty_iter, weight}
use Rattle.geometry.specs.Labels.{Label, node_weight, weight_from, network_weight, successors_at, successor_nodes}
use Rattle.geometry.specs.Network.{Made, transfers, made, all_made, network}
use Rattle.geometry.specs.Derivations.{Three, labels, all_labels, label}
use Rattle.geometry.proofs.Wired.{Bears}
use Rattle.geometry.proofs.Nodes.{bears_network}
use Rattle.geometry.proofs.Typed.{Pairwise, FitsAll, fitting, At, label_at_all}
use Rattle.geometry.proofs.Labelling.{all_fitting}

-- the Ns at the plus ports of nodes with these kinds and labels
abbrev weighed : List Made → List Three → ℕ
weighed [] ls = 0
weighed (m ∷ ms) [] = 0
weighed (m ∷ ms) (a ∷ ls) = node_weight (Some m.0) a.0 a.1 a.2 + weighed ms ls

weighed_append : (R : Kind → Three → Type 0) (l m : List Made) (ks ls : List Three) → Pairwise R l ks → weighed (l ++ m) (ks ++ ls) ≡ weighed l ks + weighed m ls
weighed_append R [] m [] ls h = omega arith
weighed_append R [] m (a ∷ ks) ls h = absurd h
weighed_append R (x ∷ l) m [] ls h = absurd h
weighed_append R (x ∷ l) m (a ∷ ks) ls h = omega (arith, weighed_append R l m ks ls h.1)

weighed_both : {Γ Δ : Ctx} {t u : Term} {A B : Ty} (d : Typed Γ t A) (e : Typed Δ u B) (i j : ℕ) → weighed (made t i ++ made u j) (labels d ++ labels e) ≡ weighed (made t i) (labels d) + weighed (made u j) (labels e)
weighed_both {t = t} {u = u} d e i j = weighed_append FitsAll (made t i) (made u j) (labels d) (labels e) (fitting d i)

-- the Ns in the types of a context's variables
abbrev held : Ctx → ℕ
held [] = 0
held (g ∷ Γ) = naturals g.1 + held Γ

held-append : (Γ Δ : Ctx) → held (Γ ++ Δ) ≡ held Γ + held Δ
held-append [] Δ = omega arith
held-append (g ∷ Γ) Δ = omega (arith, held-append Γ Δ)

held_pick : {x : ℕ} {T : Ty} {Γ Δ : Ctx} → Pick x T Γ Δ → held Γ ≡ naturals T + held Δ
held_pick (here a) = refl
held_pick (there n p) = omega (arith, held_pick p)

-- without iterator, the weight is what the nodes and the free variables produce
weighs : {Γ : Ctx} {t : Term} {A : Ty} (d : Typed Γ t A) → iterators t ≡ 0 → (i : ℕ) → weighed (made t i) (labels d) + held Γ ≡ weight d
weighs ty_var z i = omega arith
weighs ty_num z i = refl
weighs (ty_succ d) z i = omega (arith, weighs d z i)
weighs (ty_lam d p) z i = omega (arith, weighs d z i, held_pick p)
weighs (ty_app {t = t} {Γ = Γ} {Δ = Δ} d e) z i = omega (arith, weighs d (omega arith) i, weighs e (omega arith) (i + iterators t), held-append Γ Δ, weighed_both d e i (i + iterators t))
weighs (ty_pair {t = t} {Γ = Γ} {Δ = Δ} d e) z i = omega (arith, weighs d (omega arith) i, weighs e (omega arith) (i + iterators t), held-append Γ Δ, weighed_both d e i (i + iterators t))
weighs (ty_split {t = t} {Γ = Γ} {Δ₂ = Δ₂} d e p q) z i =
    omega (arith, weighs d (omega arith) i, weighs e (omega arith) (i + iterators t), held_pick p, held_pick q, held-append Γ Δ₂, weighed_both d e i (i + iterators t))
weighs (ty_iter d e f) z i = absurd (omega arith)

-- the network's weight is that of its kinds and labels
weight_from_lem : (lab : ℕ → Label) (k : ℕ) (ns : List Node) (ms : List Made) (ls : List Three) → Bears ns ms → Pairwise FitsAll ms ls → At lab k ls → weight_from lab k ns ≡ weighed ms ls
weight_from_lem lab k [] [] ls b e h = refl
weight_from_lem lab k [] (m ∷ ms) ls b e h = absurd b
weight_from_lem lab k (n ∷ ns) [] ls b e h = absurd b
weight_from_lem lab k (n ∷ ns) (m ∷ ms) [] b e h = absurd e
weight_from_lem lab k (n ∷ ns) (m ∷ ms) (a ∷ ls) b e h = rw (b.0, h.0, h.1, h.2, weight_from_lem lab (suc k) ns ms ls b.2 e.1 h.3) refl

pub weight_kept : (t : Term) (d : Typed [] t N) → iterators t ≡ 0 → network_weight (label d) (network t) ≡ weight d
weight_kept t d z =
    omega (arith, weight_from_lem (label d) 0 (network t) (all_made t) (all_labels d) (bears_network t) (all_fitting d) (label_at_all (all_labels d)), weighs d z 1)

-- the S nodes among these
abbrev successors_in : List Made → ℕ
successors_in [] = 0
successors_in (m ∷ ms) = successors_at (Some m.0) + successors_in ms

successors-append : (l m : List Made) → successors_in (l ++ m) ≡ successors_in l + successors_in m
successors-append [] m = omega arith
successors-append (x ∷ l) m = omega (arith, successors-append l m)

successors-transfers : (i : ℕ) (xs : List ℕ) → successors_in (transfers i xs) ≡ 0
successors-transfers i [] = refl
successors-transfers i (x ∷ xs) = omega (arith, successors-transfers i xs)

successors-made : (t : Term) (i : ℕ) → successors_in (made t i) ≡ successors t
successors-made (var x) i = refl
successors-made (num n) i = refl
successors-made (succ t) i = omega (arith, successors-made t i)
successors-made (lam x T t) i = omega (arith, successors-made t i)
successors-made (app t u) i = omega (arith, successors-made t i, successors-made u (i + iterators t), successors-append (made t i) (made u (i + iterators t)))
successors-made (pair t u) i = omega (arith, successors-made t i, successors-made u (i + iterators t), successors-append (made t i) (made u (i + iterators t)))
successors-made (split x y t u) i = omega (arith, successors-made t i, successors-made u (i + iterators t), successors-append (made t i) (made u (i + iterators t)))
successors-made (iter t u v) i =
    let s = suc i + iterators t in
    let us = made u s in
    let us' = transfers i (free u) in
    let vs = made v (s + iterators u) in
    let vs' = transfers i (free v) in
    omega (arith, successors-made t (suc i), successors-made u s, successors-made v (s + iterators u), successors-transfers i (free u), successors-transfers i (free v), successors-append (made t (suc i)) ((us ++ us') ++ (vs ++ vs')), successors-append (us ++ us') (vs ++ vs'), successors-append us us', successors-append vs vs')

successors_borne : (ns : List Node) (ms : List Made) → Bears ns ms → successor_nodes ns ≡ successors_in ms
successors_borne [] [] b = refl
successors_borne [] (m ∷ ms) b = absurd b
successors_borne (n ∷ ns) [] b = absurd b
successors_borne (n ∷ ns) (m ∷ ms) b = rw (b.0, successors_borne ns ms b.2) refl

pub successors-counted : (t : Term) → successor_nodes (network t) ≡ successors t
successors-counted t = omega (arith, successors_borne (network t) (all_made t) (bears_network t), successors-made t 1)
