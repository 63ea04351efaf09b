use Rattle.std.specs.Prelude.{replicate, refl}
use Rattle.std.proofs.Common.{ap}
use Rattle.kinds.specs.Pools.{new_pool}
use Rattle.kinds.proofs.Permits.{same_pool}
use Rattle.kinds.proofs.pool.rules.PoolKind.start.Goals as goal

pub returns : goal.returns
unfolding new_pool
returns c = same_pool _ new_pool (ap (λ h. replicate 32 h) c.before.from.ensures) refl
