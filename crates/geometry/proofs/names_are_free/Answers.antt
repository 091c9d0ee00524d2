use Rattle.std.proofs.Common.{sym, ◌∙◌}
use Rattle.geometry.proofs.Names.{names-free, everywhere}
use Rattle.geometry.proofs.names_are_free.Goals as goal

pub returns : goal.returns
returns c = record {
  free = λ Γ t A d. names-free d;
  same = λ Γ Δ t A B d e. names-free d ∙ sym (names-free e);
  once = λ t A d. everywhere d tt;
}
