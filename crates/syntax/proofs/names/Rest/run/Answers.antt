use Rattle.std.proofs.Common.{◌≡◌, ◌∙◌, arith}
use Rattle.std.proofs.lemmas.Bool.Decides.{nat_tests}
use Rattle.std.proofs.lemmas.Iterator.{YieldsList-from_slice}
use Rattle.std.proofs.lemmas.Iterator.Consumers.{count_from_yields_List}
use Rattle.std.proofs.lemmas.Iterator.Search.{YieldsList-from_take_while}
use Rattle.std.proofs.lemmas.List.Folds.{length-prefix_len}
use Rattle.syntax.specs.Signs.{within}
use Rattle.syntax.specs.Steps.{run}
use Rattle.syntax.proofs.Scanning.{run_is}
use Rattle.syntax.proofs.names.Rest.run.Goals as goal

pub returns : goal.returns
returns c =
    let s = c.args.self.bytes.now in
    let kind = within c.args.low c.args.high in
    let n : c.count-n.result ≡ run kind s = count_from_yields_List c.take_while.result _ c.count-n.ensures.ran (YieldsList-from_take_while _ kind (YieldsList-from_slice s cc) c.take_while.ensures.closure c.take_while.ensures.done (λ x b q k. grind (arith, nat_tests))) ∙ length-prefix_len kind s ∙ run_is kind s in
    record { front = cc; rest = cc; end = cc }
