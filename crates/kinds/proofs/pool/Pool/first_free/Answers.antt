use Rattle.kinds.proofs.Searches.{nearest}
use Rattle.kinds.proofs.pool.Pool.first_free.Goals as goal

pub returns-clause-is_the_nearest_free_one : goal.returns-clause-is_the_nearest_free_one
returns-clause-is_the_nearest_free_one c = rw c.search.ensures (nearest c.args.self.now)
