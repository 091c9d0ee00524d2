-- Memory that is laid and wired begins with the network.
use Rattle.std.proofs.Common.{◌≡◌, ℕ, suc, ◌+◌, ◌*◌, ◌/◌, ◌%◌, ◌<◌, ◌≤◌, List, [], ◌∷◌, ◌++◌, map, length, get_or, drop, set, sym, refl, ap, ◌∙◌, arith, length-append, length-set}
use lib.ListN.{length-map}
use Rattle.std.proofs.lemmas.List.{append_assoc, set_at, set-append_left, get_or_append_left, get_or-map, map-set}
use Rattle.cells.specs.declared.kinds.Port.{Port}
use Rattle.cells.specs.declared.kinds.Port.TheVariants.{First, Second, Third}
use Rattle.cells.specs.declared.kinds.Cell.{Cell}
use Rattle.cells.specs.Ports.{Node, blank, offset, place_of, node_at}
use Rattle.calculus.specs.Terms.{Term, free, nodes}
use Rattle.geometry.specs.Network.{Made, Wire, EachVariable, relinked, link_to, wired, bare, all_made, nowhere, all_wires, network, cell_of}
use Rattle.geometry.specs.Memory.{no_cell, laid, link_cell, wired_cells}
use Rattle.geometry.proofs.Made.{made-length}
use Rattle.cells.proofs.Ports.{offset_of}
use Rattle.geometry.proofs.Wired.{link_to-length}
use Rattle.geometry.proofs.Local.{Under, Within, within}

-- the nodes as cells, not yet linked
abbrev bare_cells : List Made → List Cell
bare_cells ms = map cell_of (map bare ms)

laid-after : (ks : List Cell) (ms : List Made) (cs : List Cell) (k : ℕ) → length ks ≡ k → length ms ≤ length cs → laid ms k (ks ++ cs) ≡ ks ++ (bare_cells ms ++ drop (length ms) cs)
laid-after ks [] cs k e h = refl
laid-after ks (m ∷ ms) [] k e h = absurd (omega arith)
laid-after ks (m ∷ ms) (c ∷ cs) k e h =
    let x = cell_of (bare m) in
    rw (set_at ks c cs x k e, ← (append_assoc ks (x ∷ []) cs)) (laid-after (ks ++ (x ∷ [])) ms cs (suc k) (omega (arith, length-append ks (x ∷ []))) (omega arith) ∙ append_assoc ks (x ∷ []) (bare_cells ms ++ drop (length ms) cs))

-- in parts
pub laid-append : (l m : List Made) (k j : ℕ) (cs : List Cell) → j ≡ k + length l → laid (l ++ m) k cs ≡ laid m j (laid l k cs)
laid-append [] m k j cs e = let z : k ≡ j = omega arith in rw z refl
laid-append (x ∷ l) m k j cs e = laid-append l m (suc k) j _ (omega arith)

pub laid-length : (ms : List Made) (k : ℕ) (cs : List Cell) → length (laid ms k cs) ≡ length cs
laid-length [] k cs = refl
laid-length (m ∷ ms) k cs = laid-length ms (suc k) _ ∙ length-set cs k (cell_of (bare m))

pub wired_cells-append : (v w : List Wire) (cs : List Cell) → wired_cells (v ++ w) cs ≡ wired_cells w (wired_cells v cs)
wired_cells-append [] w cs = refl
wired_cells-append (x ∷ v) w cs = wired_cells-append v w _

link_cell-length : (cs : List Cell) (p q : ℕ) → length (link_cell cs p q) ≡ length cs
link_cell-length cs p q = length-set cs (p / 3) _

pub wired_cells-length : (ws : List Wire) (cs : List Cell) → length (wired_cells ws cs) ≡ length cs
wired_cells-length [] cs = refl
wired_cells-length (w ∷ ws) cs = wired_cells-length ws _ ∙ (link_cell-length (link_cell cs w.0 w.1) w.1 w.0 ∙ link_cell-length cs w.0 w.1)

-- the cell with another link at a port
relinked_cell : Cell → ℕ → ℕ → Cell
relinked_cell c i q = record { kind = c.kind; value = c.value; links = set c.links i q }

cell_relinked : (n : Node) (π : Port) (q : ℕ) → relinked_cell (cell_of n) (offset π) q ≡ cell_of (relinked n π q)
unfolding relinked_cell
cell_relinked n First q = refl
cell_relinked n Second q = refl
cell_relinked n Third q = refl

link_front : (ns : List Node) (rest : List Cell) (p q : ℕ) → p < 3 * length ns → link_cell (map cell_of ns ++ rest) p q ≡ map cell_of (link_to ns p q) ++ rest
unfolding relinked_cell
link_front ns rest p q h =
    let l : p / 3 < length ns = omega arith in
    let m : p / 3 < length (map cell_of ns) = omega (arith, length-map ns cell_of) in
    let read : get_or (map cell_of ns ++ rest) (p / 3) no_cell ≡ cell_of (node_at ns (p / 3)) = get_or_append_left (map cell_of ns) rest no_cell (p / 3) m ∙ get_or-map cell_of ns (p / 3) blank no_cell l in
    let new : relinked_cell (cell_of (node_at ns (p / 3))) (p % 3) q ≡ cell_of (relinked (node_at ns (p / 3)) (place_of p) q) = ap (λ (i : ℕ). relinked_cell (cell_of (node_at ns (p / 3))) i q) (sym (offset_of p)) ∙ cell_relinked (node_at ns (p / 3)) (place_of p) q in
    ap (λ (c : Cell). set (map cell_of ns ++ rest) (p / 3) (relinked_cell c (p % 3) q)) read ∙ (ap (λ (c : Cell). set (map cell_of ns ++ rest) (p / 3) c) new ∙ (set-append_left (map cell_of ns) rest (p / 3) _ m ∙ ap (λ (cs : List Cell). cs ++ rest) (sym (map-set cell_of ns (p / 3) (relinked (node_at ns (p / 3)) (place_of p) q)))))

-- wires within the nodes touch no cell behind them
pub wired_front : (ws : List Wire) (ns : List Node) (rest : List Cell) (n : ℕ) → length ns ≡ n → Within n ws → wired_cells ws (map cell_of ns ++ rest) ≡ map cell_of (wired ws ns) ++ rest
wired_front [] ns rest n e h = refl
wired_front (w ∷ ws) ns rest n e h =
    let a = link_front ns rest w.0 w.1 (omega arith) in
    let b = link_front (link_to ns w.0 w.1) rest w.1 w.0 (omega (arith, link_to-length ns w.0 w.1)) in
    ap (λ (cs : List Cell). wired_cells ws (link_cell cs w.1 w.0)) a ∙ (ap (wired_cells ws) b ∙ wired_front ws _ rest n (link_to-length (link_to ns w.0 w.1) w.1 w.0 ∙ (link_to-length ns w.0 w.1 ∙ e)) h.2)

under_nowhere : (n : ℕ) → 0 < n → (xs : List ℕ) → EachVariable (Under n nowhere) xs
under_nowhere n h [] = tt
under_nowhere n h (x ∷ xs) = (omega arith, under_nowhere n h xs)

-- every port of a network's wires is one of its nodes'
pub all_within : (t : Term) → Within (1 + nodes t) (all_wires t)
all_within t = within (1 + nodes t) t 1 0 nowhere (omega arith) (omega arith) (under_nowhere (1 + nodes t) (omega arith) (free t))

pub memory_holds : (t : Term) (cs : List Cell) → 1 + nodes t ≤ length cs → wired_cells (all_wires t) (laid (all_made t) 0 cs) ≡ map cell_of (network t) ++ drop (1 + nodes t) cs
unfolding network
memory_holds t cs h =
    let n : length (all_made t) ≡ 1 + nodes t = omega (arith, made-length t 1) in
    ap (wired_cells (all_wires t)) (laid-after [] (all_made t) cs 0 refl (omega arith)) ∙ (wired_front (all_wires t) (map bare (all_made t)) (drop (length (all_made t)) cs) (1 + nodes t) (length-map (all_made t) bare ∙ n) (all_within t) ∙ ap (λ (k : ℕ). map cell_of (wired (all_wires t) (map bare (all_made t))) ++ drop k cs) n)
