use Rattle.fx_components.proofs.components.+put_from.Given as goal

abbrev pub decreases-put_from : goal.decreases-put_from
decreases-put_from l = l.more
