use Rattle.std.proofs.Common.{◌∙◌, rules, tests}
use Rattle.cells.specs.Ports.{nodes_of}
use Rattle.token_machine.proofs.Stepping.{enters}
use Rattle.token_machine.proofs.steps.entrance.Goals as goal

pub returns : goal.returns
returns c = c.unwrap_or.ensures ∙ enters (nodes_of c.args.cells.now) c.link_of.result c.filter.result c.link_of.ensures (search (rules, tests))
