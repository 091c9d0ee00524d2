-- The ports of a closed program's network are typed by its derivation.
use Rattle.std.proofs.Common.{◌≡◌, ℕ, zero, suc, ◌+◌, ◌*◌, ◌/◌, ◌<◌, ◌≤◌, List, [], ◌∷◌, length, get_or, Some, refl, subst, arith}
use Rattle.cells.specs.declared.kinds.Kind.{Kind}
use Rattle.cells.specs.declared.kinds.Port.{Port}
use Rattle.cells.specs.declared.kinds.Port.TheVariants.{First, Second, Third}
use Rattle.cells.specs.Ports.{Node, node_at, place_of}
use Rattle.calculus.specs.Types.{N, height}
use Rattle.calculus.specs.Terms.{Term}
use Rattle.calculus.specs.Typing.{Typed, tallest}
use Rattle.geometry.specs.Labels.{type_of, Fits, at_root, Labelled, NoHigher}
use Rattle.geometry.specs.Network.{Made, all_made, nowhere, l1, l2, l3, network}
use Rattle.geometry.specs.Derivations.{Three, idle, slot, label_at, all_labels, label}
use Rattle.geometry.proofs.Owned.{owns_bound}
use Rattle.cells.proofs.Ports.{place_is}
use Rattle.cells.proofs.Inside.{kind_bound}
use Rattle.geometry.proofs.Wired.{Bears, bears_length}
use Rattle.geometry.proofs.Nodes.{bears_network, has_owns}
use Rattle.geometry.proofs.Soundness.{met}
use Rattle.geometry.proofs.Typed.{Pairwise, FitsAll, fitting, facing, faced, label_at_slot, label_at_all}
use Rattle.geometry.proofs.Heights.{Low, low}

-- what holds of each node's kind and labels holds at each place
pairwise_at : (R : Kind → Three → Type 0) (ns : List Node) (ms : List Made) (ls : List Three) → Bears ns ms → Pairwise R ms ls → (k : ℕ) → k < length ns → (κ : Kind) × ((node_at ns k).kind ≡ Some κ) × R κ (get_or ls k (idle, idle, idle))
pairwise_at R [] [] ls b e k h = absurd (omega arith)
pairwise_at R [] (m ∷ ms) ls b e k h = absurd b
pairwise_at R (n ∷ ns) [] ls b e k h = absurd b
pairwise_at R (n ∷ ns) (m ∷ ms) [] b e k h = absurd e
pairwise_at R (n ∷ ns) (m ∷ ms) (a ∷ ls) b e zero h = (m.0, b.0, e.0)
pairwise_at R (n ∷ ns) (m ∷ ms) (a ∷ ls) b e (suc k) h = pairwise_at R ns ms ls b.2 e.1 k (omega arith)

fits_at : (ns : List Node) (ms : List Made) (ls : List Three) → Bears ns ms → Pairwise FitsAll ms ls → (k : ℕ) (κ : Kind) → (node_at ns k).kind ≡ Some κ → Fits κ (label_at ls (3 * k)) (label_at ls (3 * k + 1)) (label_at ls (3 * k + 2))
fits_at ns ms ls b e k κ h =
    let a = pairwise_at FitsAll ns ms ls b e k (kind_bound ns k κ h) in
    let z : a.0 ≡ κ = cc (a.1, h) in
    let three = get_or ls k (idle, idle, idle) in
    rw (label_at_slot ls (l1 k) k First three (omega arith) (place_is (l1 k) First (omega arith)) refl, label_at_slot ls (l2 k) k Second three (omega arith) (place_is (l2 k) Second (omega arith)) refl, label_at_slot ls (l3 k) k Third three (omega arith) (place_is (l3 k) Third (omega arith)) refl) (subst (λ (x : Kind). FitsAll x three) z a.2)

slot_low : (h : ℕ) (κ : Kind) (a : Three) (π : Port) → Low h κ a → height (type_of (slot a π)) ≤ h
slot_low h κ a First l = l.0
slot_low h κ a Second l = l.1
slot_low h κ a Third l = l.2

low_at : (h : ℕ) (ns : List Node) (ms : List Made) (ls : List Three) → Bears ns ms → Pairwise (Low h) ms ls → (p : ℕ) → p / 3 < length ns → height (type_of (label_at ls p)) ≤ h
unfolding label_at
low_at h ns ms ls b e p l = let a = pairwise_at (Low h) ns ms ls b e (p / 3) l in slot_low h a.0 _ (place_of p) a.2

pub all_fitting : {t : Term} (d : Typed [] t N) → Pairwise FitsAll (all_made t) (all_labels d)
all_fitting d = (at_root, fitting d 1)

pub labelled : (t : Term) (d : Typed [] t N) → Labelled (network t) (label d)
labelled t d =
    let b = bears_network t in
    let all = label_at_all (all_labels d) in
    record {
      fits = fits_at (network t) (all_made t) (all_labels d) b (all_fitting d);
      ends = λ p h. let m = met d p (has_owns (network t) (all_made t) b p h) in rw m.forth (facing (label d) m.wire (faced (label d) d tt 1 0 nowhere all.3 all.0 tt));
    }

pub no_higher : (t : Term) (d : Typed [] t N) → NoHigher (network t) (label d) (tallest d)
no_higher t d p h =
    let b = bears_network t in
    low_at (tallest d) (network t) (all_made t) (all_labels d) b (omega arith, low (tallest d) d (omega arith) 1) p (omega (arith, owns_bound (all_made t) p (has_owns (network t) (all_made t) b p h), bears_length (network t) (all_made t) b))
