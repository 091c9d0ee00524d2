use Rattle.std.proofs.Common.{sym, subst₂}
use Rattle.language.specs.Accepts.{Given}
use Rattle.language.proofs.Whole.{read_given}
use Rattle.language.proofs.workspace.Workspace.run.Goals as goal

pub conclude-requires : goal.conclude-requires
conclude-requires c = subst₂ (λ ss cs. Given ss cs c.in_ok-root.root) (sym c.deref.ensures.value) (sym c.deref-2.ensures.value) (read_given c.args.text.now _ _ _ c.in_ok-root.ensures)
