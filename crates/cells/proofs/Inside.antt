-- Ports that lie in cells, and what a sound network says of them.
use Rattle.std.proofs.Common.{◌≡◌, ℕ, zero, suc, ◌/◌, ◌<◌, true, ltb, List, [], ◌∷◌, length, Some, sym, refl, subst, arith}
use Rattle.std.proofs.lemmas.Bool.{and_parts, ltb-true, ne_eqb, lt-ltb}
use Rattle.cells.specs.declared.kinds.Kind.{Kind}
use Rattle.cells.specs.declared.kinds.Kind.TheVariants.{Root}
use Rattle.cells.specs.declared.kinds.Port.{Port}
use Rattle.cells.specs.declared.kinds.Port.TheVariants.{First, Second, Third}
use Rattle.cells.specs.Ports.{Node, node_at, port_at, inside, link, linked}
use Rattle.cells.specs.Sound.{Below, Has, Sound}
use Rattle.cells.proofs.Ports.{Linked, to_link, other_end}

-- a port that lies in a cell has a node
pub inside_low : (ns : List Node) (p : ℕ) → inside ns p ≡ true → p / 3 < length ns
unfolding inside
inside_low ns p h = ltb-true (p / 3) (length ns) (and_parts _ (ltb (p / 3) (length ns)) h).1

pub inside_is : (ns : List Node) (p : ℕ) → (p ≡ 4294967295 → ⊥) → p / 3 < length ns → inside ns p ≡ true
unfolding inside
inside_is ns p h l = rw (ne_eqb p 4294967295 h, lt-ltb (p / 3) (length ns) l) refl

-- so few nodes have no port of the number that stands for none
pub port_bound : (k : ℕ) (p : Port) → k < 1431655765 → port_at k p ≡ 4294967295 → ⊥
port_bound k First h e = omega arith
port_bound k Second h e = omega arith
port_bound k Third h e = omega arith

-- a place with a kind is one of the list
pub kind_bound : (ns : List Node) (k : ℕ) (κ : Kind) → (node_at ns k).kind ≡ Some κ → k < length ns
kind_bound [] k κ e = absurd (let z : ◌≡◌ {A = ℕ} 0 1 = cc in omega arith)
kind_bound (n ∷ ns) zero κ e = omega arith
kind_bound (n ∷ ns) (suc k) κ e = omega (arith, kind_bound ns k κ e)

-- node 0 has port 0
pub root_has : (ns : List Node) → Sound ns → Has ns 0
root_has ns sound = record {
  lies = inside_is ns 0 (λ e. omega arith) (kind_bound ns 0 Root sound.root);
  owned = subst (Below 0) (sym sound.root) (omega arith);
}

-- a port that a kind has, and its link, are linked to each other
pub linked-end : (ns : List Node) (p : ℕ) → Sound ns → Has ns p → Linked ns p (link ns p)
linked-end ns p sound h =
    let m = sound.linked p h in
    record { here = h.lies; there = m.there.lies; out = refl; back = m.back }

pub linked_out : (ns : List Node) (p : ℕ) → Sound ns → Has ns p → linked ns p (link ns p) ≡ true
linked_out ns p sound h = to_link ns p (link ns p) (linked-end ns p sound h)

pub linked_in : (ns : List Node) (p : ℕ) → Sound ns → Has ns p → linked ns (link ns p) p ≡ true
linked_in ns p sound h = to_link ns (link ns p) p (other_end ns p (link ns p) (linked-end ns p sound h))
