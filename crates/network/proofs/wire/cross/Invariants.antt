use Rattle.std.proofs.Common.{◌≡◌, ℕ, ◌+◌, length, drop}
use Rattle.geometry.specs.Network.{crossings, entered}
use Rattle.geometry.specs.Memory.{wired_cells}
use Rattle.network.specs.Wiring.{starting, Crossable}
use Rattle.network.proofs.wire.cross.Given as goal

abbrev pub invariant-loop-i : goal.invariant-loop-i
invariant-loop-i l =
    record {
      rest : Crossable (drop l.i l.uses) (l.first + l.i) l.starts (length l.cells);
      written : wired_cells (crossings (drop l.i l.uses) (l.first + l.i) (starting l.starts)) l.cells ≡ wired_cells (crossings l.uses l.first (starting l.initial.starts)) l.initial.cells;
      inside : (y : ℕ) → entered (drop l.i l.uses) (l.first + l.i) (starting l.starts) y ≡ entered l.uses l.first (starting l.initial.starts) y;
      long : length l.starts ≡ length l.initial.starts;
    }
