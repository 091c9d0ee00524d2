use Rattle.std.proofs.Common.{cond, sym, ap, ◌∙◌}
use Rattle.syntax.specs.declared.refusal.Fault.TheVariants.{IllTyped}
use Rattle.language.specs.Infer.{bad, within, app_rule}
use Rattle.language.proofs.Cells.{reads}
use Rattle.language.proofs.table.TypeTable.application.Goals as goal

pub same-requires : goal.same-requires
same-requires c = let m = reads _ _ _ _ (c.cell.ensures ∙ c.in-Arrow.is) c.requires.function.1 in record { left = (_, m.first); right = c.requires.argument }

pub returns-in-Arrow : goal.returns-in-Arrow
returns-in-Arrow c = λ F A d f.
    let m = reads F _ _ _ (c.cell.ensures ∙ c.in-Arrow.is) d in
    (m.b, m.second, ap (λ T. app_rule c.args.place T A) m.is ∙ ap (λ b. cond b (within c.args.place m.b) (bad IllTyped c.args.place)) (sym (c.same.ensures m.a A m.first f) ∙ c.if-same.true))
