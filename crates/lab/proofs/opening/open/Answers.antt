use Rattle.std.proofs.Common.{◌≡◌, List, length, Ok, sym, refl, ap, ◌∙◌, subst}
use Rattle.cells.specs.declared.kinds.Cell.{Cell}
use Rattle.cells.specs.Ports.{nodes_of}
use Rattle.network.specs.Building.{Built}
use Rattle.token.specs.State.{opened}
use Rattle.lab.specs.Memories.{rooms_in}
use Rattle.lab.proofs.Built.{opens}
use Rattle.lab.proofs.Distances.{token_run_law}
use Rattle.lab.proofs.Whole.{whole_walks}
use Rattle.lab.proofs.opening.open.Goals as goal

pub returns-in-Ok : goal.returns-in-Ok
returns-in-Ok c =
    let m = c.args.memory in
    let token = c.open.result in
    let text = c.args.text.now in
    let same = c.open.ensures.cells in
    let long : length c.build.new.cells ≡ length m.cells.now = c.build.auto.cells in
    record {
      opened =
          opens text m c.args.first token c.in-Ok.field-0
          (subst (λ (cs : List Cell). Built text m.cells.now cs (Ok c.in-Ok.field-0)) (sym same) c.in-Ok.ensures)
          (ap length same ∙ long)
          (c.open.ensures.state ∙ ap (λ (cs : List Cell). opened (nodes_of cs) (rooms_in m) c.args.first) (sym same));
      exact = (c.texts_accepted_exactly.ensures.exactly, c.texts_accepted_exactly.ensures.rejected);
      whole = whole_walks token_run_law;
    }

pub returns-in-Err : goal.returns-in-Err
returns-in-Err c =
    let refused = c.in-Err.ensures in
    record {
      opened = (refused.0, record { cells = refused.1; letters = refl; iters = refl; shelves = refl; datas = refl });
      exact = (c.texts_accepted_exactly.ensures.exactly, c.texts_accepted_exactly.ensures.rejected);
      whole = whole_walks token_run_law;
    }
