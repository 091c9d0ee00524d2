-- The network of a closed program is sound.
use Rattle.std.proofs.Common.{◌≡◌, ℕ, zero, suc, ◌+◌, ◌*◌, ◌/◌, ◌<◌, ◌≤◌, List, [], ◌∷◌, map, length, Some, sym, refl, ◌∙◌, arith}
use lib.ListN.{length-map}
use Rattle.cells.specs.declared.kinds.Kind.{Kind}
use Rattle.cells.specs.declared.kinds.Kind.TheVariants.{Root, Number, Successor, Multiplexer, Iterator, LeftCounter, RightCounter, Transfer}
use Rattle.cells.specs.Ports.{Node, node_at, link, absent}
use Rattle.cells.specs.Sound.{Valued, Sound}
use Rattle.calculus.specs.Types.{Ty, N}
use Rattle.calculus.specs.Terms.{Term, iterators, nodes}
use Rattle.calculus.specs.Typing.{Typed}
use Rattle.geometry.specs.Network.{Made, made, Wire, Kept, bare, all_made, all_wires, nowhere, network}
use Rattle.geometry.proofs.Made.{Each, made_each, made-length, every_number}
use Rattle.geometry.proofs.Ends.{ends, ports, counted}
use Rattle.geometry.proofs.Owned.{Owns, once, never, at_most, owns, owns_bound}
use Rattle.geometry.proofs.Joins.{Joined, fore, back, later, turned, ended, ended_twice, joined}
use Rattle.geometry.proofs.Wired.{Bears, bears_length, wired_at, wired_apart, bare-absent}
use Rattle.geometry.proofs.Nodes.{bears_network, each_at, each_kind, has_owns, owns_has}

pub network-length : (t : Term) → length (network t) ≡ 1 + nodes t
network-length t = omega (arith, bears_length (network t) (all_made t) (bears_network t), made-length t 1)

-- the wires of a closed program end once at each port that a node has, and nowhere else
pub all_counted : (p : ℕ) {t : Term} {A : Ty} (d : Typed [] t A) → ends p (all_wires t) ≡ ports p 0 (all_made t)
all_counted p d = omega (arith, counted p d tt 1 1 0 nowhere)

-- a wire of the network is found again at both its ends
joined_kept : {t : Term} {A : Ty} (d : Typed [] t A) {p q : ℕ} → Joined p q (all_wires t) → link (network t) p ≡ q
unfolding network
joined_kept {t} d {p} l =
    let one = at_most p (all_made t) in
    let h = owns p (all_made t) (omega (arith, all_counted p d, ended l)) in
    wired_at l (omega (arith, all_counted p d, one)) (map bare (all_made t)) (omega (arith, owns_bound (all_made t) p h, length-map (all_made t) bare))

pub wires_kept : {t : Term} {A : Ty} (d : Typed [] t A) → Kept (network t) (all_wires t)
wires_kept {t} d = go (all_wires t) (λ p q l. l)
  where
    go : (ws : List Wire) → ((p q : ℕ) → Joined p q ws → Joined p q (all_wires t)) → Kept (network t) ws
    go [] f = tt
    go (w ∷ ws) f = (joined_kept d (f w.0 w.1 (fore refl refl)), joined_kept d (f w.1 w.0 (back refl refl)), go ws (λ p q l. f p q (later l)))

-- the wire at a port that a node has, and the links that it leaves
pub record Met (t : Term) (p : ℕ) : Type 0 where
  pub far : ℕ
  pub wire : Joined p far (all_wires t)
  pub has_far : Owns (all_made t) far
  pub forth : link (network t) p ≡ far
  pub home : link (network t) far ≡ p
  pub apart : far ≡ p → ⊥

pub met : {t : Term} {A : Ty} (d : Typed [] t A) (p : ℕ) → Owns (all_made t) p → Met t p
met {t} d p h =
    let one = once p (all_made t) h in
    let j = joined p (all_wires t) (omega (arith, all_counted p d, one)) in
    let q = j.0 in
    let l = j.1 in
    let g = owns q (all_made t) (omega (arith, all_counted q d, ended (turned l))) in
    record {
      far = q;
      wire = l;
      has_far = g;
      forth = joined_kept d l;
      home = joined_kept d (turned l);
      apart = λ e. omega (arith, ended_twice l (sym e), all_counted p d, one);
    }

-- no link is written at a port that no node has
unmet : {t : Term} {A : Ty} (d : Typed [] t A) (p : ℕ) → p / 3 < length (all_made t) → (Owns (all_made t) p → ⊥) → link (network t) p ≡ absent
unfolding network
unmet {t} d p l h = wired_apart p (all_wires t) (map bare (all_made t)) (all_counted p d ∙ never p (all_made t) h) ∙ bare-absent (all_made t) p l

-- a node other than the root is no root, and its value fits
abbrev NoRoot : Kind → Type 0
NoRoot Root = ⊥
NoRoot Number = Unit {0}
NoRoot Successor = Unit {0}
NoRoot Multiplexer = Unit {0}
NoRoot Iterator = Unit {0}
NoRoot LeftCounter = Unit {0}
NoRoot RightCounter = Unit {0}
NoRoot Transfer = Unit {0}

abbrev Proper : Kind → ℕ → Type 0
Proper κ v = NoRoot κ × Valued κ v

proper : (t : Term) → iterators t ≤ 64 → Each Proper (made t 1)
proper t h =
    made_each Proper t 1 (record {
      successor = (tt, refl);
      multiplexer = (tt, refl);
      iterator = λ g. ((tt, refl), (tt, refl), (tt, refl));
      transfer = λ j a b. (tt, (omega arith, omega arith));
    }) (every_number (Proper Number) t (λ n. (tt, tt)))

one_root : (ns : List Node) (ms : List Made) → Bears ns ms → Each Proper ms → (k : ℕ) → (node_at ns k).kind ≡ Some Root → ⊥
one_root ns ms b e k h = (each_kind Proper ns ms b e k Root h).0

root_valued : (ns : List Node) (ms : List Made) → Bears ns ((Root, 0) ∷ ms) → Each Proper ms → ((node_at ns 0).kind ≡ Some Root) × ((k : ℕ) → (node_at ns k).kind ≡ Some Root → k ≡ 0) × ((k : ℕ) → k < length ns → (κ : Kind) × ((node_at ns k).kind ≡ Some κ) × Valued κ (node_at ns k).value)
root_valued [] ms b e = absurd b
root_valued (n ∷ ns) ms b e = (b.0, roots, values)
  where
    roots : (k : ℕ) → (node_at (n ∷ ns) k).kind ≡ Some Root → k ≡ 0
    roots zero h = refl
    roots (suc k) h = absurd (one_root ns ms b.2 e k h)

    values : (k : ℕ) → k < length (n ∷ ns) → (κ : Kind) × ((node_at (n ∷ ns) k).kind ≡ Some κ) × Valued κ (node_at (n ∷ ns) k).value
    values zero h = (Root, b.0, b.1)
    values (suc k) h = let a = each_at Proper ns ms b.2 e k (omega arith) in (a.0, a.1, a.2.1)

pub sound : (t : Term) → Typed [] t N → 3 * (1 + nodes t) ≤ 4294967295 → iterators t ≤ 64 → Sound (network t)
sound t d s i =
    let b = bears_network t in
    let r = root_valued (network t) (made t 1) b (proper t i) in
    let z : 3 * length (all_made t) ≤ 4294967295 = omega (arith, made-length t 1) in
    record {
      root = r.0;
      one_root = r.1;
      kinds = r.2;
      linked = λ p h.
          let m = met d p (has_owns (network t) (all_made t) b p h) in
          record {
            there = rw m.forth (owns_has (network t) (all_made t) b z m.far m.has_far);
            back = rw m.forth m.home;
            other = λ e. m.apart (sym m.forth ∙ e);
          };
      unlinked = λ p l h. unmet d p (omega (arith, bears_length (network t) (all_made t) b)) (λ o. h (owns_has (network t) (all_made t) b z p o));
    }
