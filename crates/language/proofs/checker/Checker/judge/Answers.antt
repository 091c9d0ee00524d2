use Rattle.std.proofs.Common.{ap, ◌∙◌}
use Rattle.language.specs.Checks.{cells_of}
use Rattle.language.proofs.Heights.{low_enough, too_high}
use Rattle.language.proofs.checker.Checker.judge.Goals as goal

pub returns-then-measure-gt-HIGHEST-clause-agrees : goal.returns-then-measure-gt-HIGHEST-clause-agrees
returns-then-measure-gt-HIGHEST-clause-agrees c = λ A d. too_high A (cells_of c.args.self.now) _ _ (ap (λ m. m.height) c.measure.ensures ∙ c.args.self.now.types.heights _ A d) c.if-measure-gt-HIGHEST.true

pub returns-clause-agrees : goal.returns-clause-agrees
returns-clause-agrees c = λ A d. low_enough A _ _ _ _ (ap (λ m. m.height) c.measure.ensures ∙ c.args.self.now.types.heights _ A d) c.if-measure-gt-HIGHEST.false d
