-- Wires written into nodes: the links read back, the kinds and the values kept.
use Rattle.std.proofs.Common.{◌≡◌, ℕ, zero, suc, ◌/◌, ◌<◌, ◌≤◌, List, [], ◌∷◌, ◌++◌, map, length, set, Some, sym, refl, ap, ◌∙◌, arith, length-set}
use native.Mathlib.Decide.{dec_lt, ℕ_discrete}
use Rattle.std.proofs.lemmas.List.{get_or-set_same, get_or-set_other, set_past}
use Rattle.cells.specs.declared.kinds.Port.{Port}
use Rattle.cells.specs.declared.kinds.Port.TheVariants.{First, Second, Third}
use Rattle.cells.specs.Ports.{Node, blank, absent, offset, place_of, link_at, node_at, link}
use Rattle.cells.proofs.Ports.{offset_of}
use Rattle.geometry.specs.Network.{Made, Wire, relinked, link_to, wired, bare}
use Rattle.geometry.proofs.Ends.{hit_tells, ends}
use Rattle.geometry.proofs.Joins.{Joined, fore, back, later}

relinked-same : (n : Node) (π : Port) (q : ℕ) → link_at (relinked n π q) π ≡ q
relinked-same n First q = refl
relinked-same n Second q = refl
relinked-same n Third q = refl

relinked_other : (n : Node) (π ρ : Port) (q : ℕ) → (offset π ≡ offset ρ → ⊥) → link_at (relinked n π q) ρ ≡ link_at n ρ
relinked_other n First First q h = absurd (h refl)
relinked_other n First Second q h = refl
relinked_other n First Third q h = refl
relinked_other n Second First q h = refl
relinked_other n Second Second q h = absurd (h refl)
relinked_other n Second Third q h = refl
relinked_other n Third First q h = refl
relinked_other n Third Second q h = refl
relinked_other n Third Third q h = absurd (h refl)

pub link_to-length : (ns : List Node) (p q : ℕ) → length (link_to ns p q) ≡ length ns
link_to-length ns p q = length-set ns (p / 3) (relinked (node_at ns (p / 3)) (place_of p) q)

link_to-same : (ns : List Node) (p q : ℕ) → p / 3 < length ns → link (link_to ns p q) p ≡ q
unfolding link
link_to-same ns p q h = rw (get_or-set_same ns (p / 3) (relinked (node_at ns (p / 3)) (place_of p) q) blank h) (relinked-same (node_at ns (p / 3)) (place_of p) q)

link_to_other : (ns : List Node) (p q o : ℕ) → (o ≡ p → ⊥) → link (link_to ns p q) o ≡ link ns o
unfolding link
link_to_other ns p q o h = go (ℕ_discrete (o / 3) (p / 3)) (dec_lt (p / 3) (length ns))
  where
    n : Node
    n = relinked (node_at ns (p / 3)) (place_of p) q

    go : Dec (o / 3 ≡ p / 3) → Dec (p / 3 < length ns) → link_at (node_at (set ns (p / 3) n) (o / 3)) (place_of o) ≡ link_at (node_at ns (o / 3)) (place_of o)
    go (no a) b = rw (get_or-set_other ns (p / 3) (o / 3) n blank a) refl
    go (yes a) (no b) = rw (set_past ns (p / 3) n (omega arith)) refl
    go (yes a) (yes b) =
        rw (a, get_or-set_same ns (p / 3) n blank b) (relinked_other (node_at ns (p / 3)) (place_of p) (place_of o) q (λ e. h (omega (arith, offset_of p, offset_of o, e, a))))

pub wired-append : (v w : List Wire) (ns : List Node) → wired (v ++ w) ns ≡ wired w (wired v ns)
wired-append [] w ns = refl
wired-append (x ∷ v) w ns = wired-append v w _

pub wired-length : (ws : List Wire) (ns : List Node) → length (wired ws ns) ≡ length ns
wired-length [] ns = refl
wired-length (w ∷ ws) ns = wired-length ws _ ∙ (link_to-length (link_to ns w.0 w.1) w.1 w.0 ∙ link_to-length ns w.0 w.1)

-- a port that no wire has keeps its link
pub wired_apart : (p : ℕ) (ws : List Wire) (ns : List Node) → ends p ws ≡ 0 → link (wired ws ns) p ≡ link ns p
wired_apart p [] ns h = refl
wired_apart p (w ∷ ws) ns h =
    wired_apart p ws _ (omega arith) ∙ (link_to_other (link_to ns w.0 w.1) w.1 w.0 p (λ e. omega (arith, hit_tells p w.1, e)) ∙ link_to_other ns w.0 w.1 p (λ e. omega (arith, hit_tells p w.0, e)))

-- the link of a port with one wire is the other end
pub wired_at : {p q : ℕ} {ws : List Wire} → Joined p q ws → ends p ws ≤ 1 → (ns : List Node) → p / 3 < length ns → link (wired ws ns) p ≡ q
wired_at {p} {q} (fore {w = w} {ws = ws} a b) h ns l =
    wired_apart p ws _ (omega (arith, hit_tells p w.0, a)) ∙ (link_to_other (link_to ns w.0 w.1) w.1 w.0 p (λ e. omega (arith, hit_tells p w.0, hit_tells p w.1, a, e)) ∙ (rw a (link_to-same ns w.0 w.1 (rw a at l)) ∙ sym b))
wired_at {p} {q} (back {w = w} {ws = ws} a b) h ns l =
    wired_apart p ws _ (omega (arith, hit_tells p w.1, a)) ∙ (rw a (link_to-same (link_to ns w.0 w.1) w.1 w.0 (rw (link_to-length ns w.0 w.1, ← a) l)) ∙ sym b)
wired_at {p} {q} (later {w = w} {ws = ws} m) h ns l =
    wired_at m (omega arith) _ (omega (arith, link_to-length (link_to ns w.0 w.1) w.1 w.0, link_to-length ns w.0 w.1))

-- the nodes are of these kinds, with these values
abbrev pub Bears : List Node → List Made → Type 0
Bears [] [] = Unit {0}
Bears [] (m ∷ ms) = ⊥
Bears (n ∷ ns) [] = ⊥
Bears (n ∷ ns) (m ∷ ms) = (n.kind ≡ Some m.0) × (n.value ≡ m.1) × Bears ns ms

relinked_kind : (n : Node) (π : Port) (q : ℕ) → (relinked n π q).kind ≡ n.kind
relinked_kind n First q = refl
relinked_kind n Second q = refl
relinked_kind n Third q = refl

relinked_value : (n : Node) (π : Port) (q : ℕ) → (relinked n π q).value ≡ n.value
relinked_value n First q = refl
relinked_value n Second q = refl
relinked_value n Third q = refl

bears_set : (ns : List Node) (ms : List Made) (i : ℕ) (n : Node) → n.kind ≡ (node_at ns i).kind → n.value ≡ (node_at ns i).value → Bears ns ms → Bears (set ns i n) ms
bears_set [] [] i n e f h = tt
bears_set [] (m ∷ ms) i n e f h = absurd h
bears_set (a ∷ ns) [] i n e f h = absurd h
bears_set (a ∷ ns) (m ∷ ms) zero n e f h = (e ∙ h.0, f ∙ h.1, h.2)
bears_set (a ∷ ns) (m ∷ ms) (suc i) n e f h = (h.0, h.1, bears_set ns ms i n e f h.2)

bears_link_to : (ns : List Node) (ms : List Made) (p q : ℕ) → Bears ns ms → Bears (link_to ns p q) ms
bears_link_to ns ms p q h = bears_set ns ms (p / 3) _ (relinked_kind (node_at ns (p / 3)) (place_of p) q) (relinked_value (node_at ns (p / 3)) (place_of p) q) h

pub bears_wired : (ws : List Wire) (ns : List Node) (ms : List Made) → Bears ns ms → Bears (wired ws ns) ms
bears_wired [] ns ms h = h
bears_wired (w ∷ ws) ns ms h = bears_wired ws _ ms (bears_link_to (link_to ns w.0 w.1) ms w.1 w.0 (bears_link_to ns ms w.0 w.1 h))

pub bears_bare : (ms : List Made) → Bears (map bare ms) ms
bears_bare [] = tt
bears_bare (m ∷ ms) = (refl, refl, bears_bare ms)

pub bears_length : (ns : List Node) (ms : List Made) → Bears ns ms → length ns ≡ length ms
bears_length [] [] h = refl
bears_length [] (m ∷ ms) h = absurd h
bears_length (n ∷ ns) [] h = absurd h
bears_length (n ∷ ns) (m ∷ ms) h = ap suc (bears_length ns ms h.2)

-- a node that is not yet linked has no link
pub bare-absent : (ms : List Made) (p : ℕ) → p / 3 < length ms → link (map bare ms) p ≡ absent
unfolding link
bare-absent ms p h = go ms (p / 3) (place_of p) h
  where
    all : (m : Made) (π : Port) → link_at (bare m) π ≡ absent
    all m First = refl
    all m Second = refl
    all m Third = refl

    go : (ms : List Made) (k : ℕ) (π : Port) → k < length ms → link_at (node_at (map bare ms) k) π ≡ absent
    go [] k π h = absurd (omega arith)
    go (m ∷ ms) zero π h = all m π
    go (m ∷ ms) (suc k) π h = go ms k π (omega arith)
