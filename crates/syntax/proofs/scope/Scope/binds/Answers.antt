use Rattle.std.proofs.Common.{◌∙◌, vec_items, rules, tests}
use Rattle.std.proofs.lemmas.Iterator.{YieldsList-from_slice}
use Rattle.std.proofs.lemmas.Iterator.Search.{any_from_yields_List}
use Rattle.std.specs.Str.{bytes_eq}
use Rattle.syntax.specs.Held.{spelled}
use Rattle.syntax.proofs.NameSteps.{among_any}
use Rattle.syntax.proofs.scope.Scope.binds.Goals as goal

pub returns : goal.returns
returns c =
    let w = c.args.word.now in
    let xs = vec_items c.args.self.now.bound in
    any_from_yields_List (λ x. bytes_eq w (spelled x)) _ _ c.any.result c.any.ensures.ran (YieldsList-from_slice xs cc) (λ x b q k. search (rules, tests)) ∙ among_any w xs
