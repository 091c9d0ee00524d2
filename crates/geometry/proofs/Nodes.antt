-- What a list of nodes of known kinds and values is at each place.
use Rattle.std.proofs.Common.{◌≡◌, ℕ, zero, suc, ◌*◌, ◌/◌, ◌%◌, ◌<◌, ◌≤◌, List, [], ◌∷◌, length, Some, sym, subst, arith}
use Rattle.cells.specs.declared.kinds.Kind.{Kind}
use Rattle.cells.specs.Ports.{Node, node_at}
use Rattle.cells.specs.Sound.{Below, Has}
use Rattle.cells.proofs.Inside.{inside_is, kind_bound}
use Rattle.geometry.specs.Network.{Made, all_made, all_wires, network}
use Rattle.calculus.specs.Terms.{Term}
use Rattle.geometry.proofs.Made.{Each}
use Rattle.geometry.proofs.Owned.{arity_at, Owns, owns_bound}
use Rattle.geometry.proofs.Wired.{Bears, bears_wired, bears_bare, bears_length}

pub bears_network : (t : Term) → Bears (network t) (all_made t)
unfolding network
bears_network t = bears_wired (all_wires t) _ (all_made t) (bears_bare (all_made t))

-- what holds of each node made holds at each place
pub each_at : (P : Kind → ℕ → Type 0) (ns : List Node) (ms : List Made) → Bears ns ms → Each P ms → (k : ℕ) → k < length ns → (κ : Kind) × ((node_at ns k).kind ≡ Some κ) × P κ (node_at ns k).value
each_at P [] [] b e k h = absurd (omega arith)
each_at P [] (m ∷ ms) b e k h = absurd b
each_at P (n ∷ ns) [] b e k h = absurd b
each_at P (n ∷ ns) (m ∷ ms) b e zero h = (m.0, b.0, subst (P m.0) (sym b.1) e.0)
each_at P (n ∷ ns) (m ∷ ms) b e (suc k) h = each_at P ns ms b.2 e.1 k (omega arith)

pub each_kind : (P : Kind → ℕ → Type 0) (ns : List Node) (ms : List Made) → Bears ns ms → Each P ms → (k : ℕ) (κ : Kind) → (node_at ns k).kind ≡ Some κ → P κ (node_at ns k).value
each_kind P ns ms b e k κ h =
    let a = each_at P ns ms b e k (kind_bound ns k κ h) in
    let z : a.0 ≡ κ = cc (a.1, h) in
    subst (λ (x : Kind). P x (node_at ns k).value) z a.2

-- the ports that the kinds have
pub below_arity : (ns : List Node) (ms : List Made) → Bears ns ms → (i k : ℕ) → Below i (node_at ns k).kind → i < arity_at ms k
below_arity [] [] b i k h = absurd h
below_arity [] (m ∷ ms) b i k h = absurd b
below_arity (n ∷ ns) [] b i k h = absurd b
below_arity (n ∷ ns) (m ∷ ms) b i zero h = subst (Below i) b.0 h
below_arity (n ∷ ns) (m ∷ ms) b i (suc k) h = below_arity ns ms b.2 i k h

arity_below : (ns : List Node) (ms : List Made) → Bears ns ms → (i k : ℕ) → i < arity_at ms k → Below i (node_at ns k).kind
arity_below [] [] b i k h = absurd (omega arith)
arity_below [] (m ∷ ms) b i k h = absurd b
arity_below (n ∷ ns) [] b i k h = absurd b
arity_below (n ∷ ns) (m ∷ ms) b i zero h = subst (Below i) (sym b.0) h
arity_below (n ∷ ns) (m ∷ ms) b i (suc k) h = arity_below ns ms b.2 i k h

pub has_owns : (ns : List Node) (ms : List Made) → Bears ns ms → (p : ℕ) → Has ns p → Owns ms p
has_owns ns ms b p h = below_arity ns ms b (p % 3) (p / 3) h.owned

pub owns_has : (ns : List Node) (ms : List Made) → Bears ns ms → 3 * length ms ≤ 4294967295 → (p : ℕ) → Owns ms p → Has ns p
owns_has ns ms b s p h =
    let l = owns_bound ms p h in
    let e = bears_length ns ms b in
    record { lies = inside_is ns p (λ z. omega arith) (omega arith); owned = arity_below ns ms b (p % 3) (p / 3) h }
