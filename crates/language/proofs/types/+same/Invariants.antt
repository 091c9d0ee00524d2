use Rattle.language.proofs.types.+same.Given as goal

abbrev pub decreases-same : goal.decreases-same
decreases-same l = l.i
