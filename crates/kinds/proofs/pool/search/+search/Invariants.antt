use Rattle.kinds.proofs.pool.search.+search.Given as goal

abbrev pub decreases-search : goal.decreases-search
decreases-search l = l.left
