use Rattle.network.proofs.wire.Wiring.+gather.Given as goal

abbrev pub decreases-gather : goal.decreases-gather
decreases-gather l = l.i
