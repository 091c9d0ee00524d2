-- Ports by their numbers, and the two ends of a link.
use Rattle.std.proofs.Common.{◌≡◌, ℕ, zero, suc, ◌+◌, ◌*◌, ◌/◌, ◌%◌, ◌<◌, true, cond, ◌&&◌, eqb, List, Some, sym, refl, ap, ◌∙◌, arith}
use Rattle.std.proofs.lemmas.Bool.{and_parts, and_from, eqb-true, eq-eqb}
use Rattle.cells.specs.declared.kinds.Kind.{Kind}
use Rattle.cells.specs.declared.kinds.Kind.TheVariants.{Root, Number, Successor, Multiplexer, Iterator, LeftCounter, RightCounter, Transfer}
use Rattle.cells.specs.declared.kinds.Port.{Port}
use Rattle.cells.specs.declared.kinds.Port.TheVariants.{First, Second, Third}
use Rattle.cells.specs.Ports.{Node, kind_number, kind_of, offset, port_at, place_of, inside, link, linked}

-- a kind is known by its number
pub kind_of_lem : (κ : Kind) → kind_of (kind_number κ) ≡ Some κ
kind_of_lem Root = refl
kind_of_lem Number = refl
kind_of_lem Successor = refl
kind_of_lem Multiplexer = refl
kind_of_lem Iterator = refl
kind_of_lem LeftCounter = refl
kind_of_lem RightCounter = refl
kind_of_lem Transfer = refl

pub same_kind : (κ ι : Kind) → kind_number κ ≡ kind_number ι → κ ≡ ι
same_kind κ ι e =
    let h : Some κ ≡ Some ι = sym (kind_of_lem κ) ∙ ap kind_of e ∙ kind_of_lem ι in
    cc

pub node_of : (k : ℕ) (p : Port) → port_at k p / 3 ≡ k
node_of k First = omega arith
node_of k Second = omega arith
node_of k Third = omega arith

pub rest_of : (k : ℕ) (p : Port) → port_at k p % 3 ≡ offset p
rest_of k First = omega arith
rest_of k Second = omega arith
rest_of k Third = omega arith

offset-place : (p : Port) → cond (eqb (offset p) 0) First (cond (eqb (offset p) 1) Second Third) ≡ p
offset-place First = refl
offset-place Second = refl
offset-place Third = refl

-- ports of one place are one
pub same_place : (p q : Port) → offset p ≡ offset q → p ≡ q
same_place p q e = sym (offset-place p) ∙ ap (λ n. cond (eqb n 0) First (cond (eqb n 1) Second Third)) e ∙ offset-place q

-- the place of a port is its number's remainder
pub offset_of : (p : ℕ) → offset (place_of p) ≡ p % 3
offset_of p = by (p % 3) (omega arith)
  where
    by : (n : ℕ) → n < 3 → offset (cond (eqb n 0) First (cond (eqb n 1) Second Third)) ≡ n
    by zero h = refl
    by (suc zero) h = refl
    by (suc (suc zero)) h = refl
    by (suc (suc (suc n))) h = absurd (omega arith)

pub place_is : (p : ℕ) (π : Port) → p % 3 ≡ offset π → place_of p ≡ π
place_is p π e = same_place (place_of p) π (offset_of p ∙ e)

pub place_of_lem : (k : ℕ) (p : Port) → place_of (port_at k p) ≡ p
place_of_lem k p = place_is (port_at k p) p (rest_of k p)

-- a port is known by its node and its place
pub port_of_lem : (p : ℕ) → port_at (p / 3) (place_of p) ≡ p
port_of_lem p = ap (λ n. 3 * (p / 3) + n) (offset_of p) ∙ omega arith

-- what it is to be linked
pub record Linked (ns : List Node) (p q : ℕ) : Type 0 where
  pub here : inside ns p ≡ true
  pub there : inside ns q ≡ true
  pub out : link ns p ≡ q
  pub back : link ns q ≡ p

pub is_linked : (ns : List Node) (p q : ℕ) → linked ns p q ≡ true → Linked ns p q
unfolding linked
is_linked ns p q h =
    let (a, b) = and_parts (inside ns p) (inside ns q && (eqb (link ns p) q && eqb (link ns q) p)) h in
    let (c, d) = and_parts (inside ns q) (eqb (link ns p) q && eqb (link ns q) p) b in
    let (e, f) = and_parts (eqb (link ns p) q) (eqb (link ns q) p) d in
    record { here = a; there = c; out = eqb-true _ _ e; back = eqb-true _ _ f }

pub to_link : (ns : List Node) (p q : ℕ) → Linked ns p q → linked ns p q ≡ true
unfolding linked
to_link ns p q h = and_from _ _ h.here (and_from _ _ h.there (and_from _ _ (eq-eqb _ _ h.out) (eq-eqb _ _ h.back)))

pub other_end : (ns : List Node) (p q : ℕ) → Linked ns p q → Linked ns q p
other_end ns p q h = record { here = h.there; there = h.here; out = h.back; back = h.out }
