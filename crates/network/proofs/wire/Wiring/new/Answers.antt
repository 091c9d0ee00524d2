use Rattle.std.proofs.Common.{rules}
use Rattle.network.proofs.wire.Wiring.new.Goals as goal

pub returns : goal.returns
returns c = (c.in_ok-starts.ensures.items_if_clones_equal (λ y e. search rules), search rules)
