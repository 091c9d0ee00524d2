-- A network written into memory, in two rounds: the nodes are laid, and then the wires join them. Assumes nothing.
use Rattle.std.specs.Prelude.{ℕ, suc, ◌/◌, ◌%◌, List, [], ◌∷◌, slice_index_or, slice_set}
use Rattle.cells.specs.declared.kinds.Cell.{Cell}
use Rattle.geometry.specs.Network.{Made, Wire, bare, cell_of}

-- stands for a cell that is not there
abbrev pub no_cell : Cell
no_cell = record { kind = 0; value = 0; links = [] }

-- the nodes written from cell k on, not yet linked
abbrev pub laid : List Made → ℕ → List Cell → List Cell
laid [] k cs = cs
laid (m ∷ ms) k cs = laid ms (suc k) (slice_set cs k (cell_of (bare m)))

-- the cells with q as the link of the port p
abbrev pub link_cell : List Cell → ℕ → ℕ → List Cell
link_cell cs p q =
    let c = slice_index_or cs (p / 3) no_cell in
    slice_set cs (p / 3) (record { kind = c.kind; value = c.value; links = slice_set c.links (p % 3) q })

-- the cells with the two ends of each wire linked to each other
abbrev pub wired_cells : List Wire → List Cell → List Cell
wired_cells [] cs = cs
wired_cells (w ∷ ws) cs = wired_cells ws (link_cell (link_cell cs w.0 w.1) w.1 w.0)
