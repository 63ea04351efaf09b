use Rattle.std.proofs.Common.{arith}
use Rattle.std.proofs.lemmas.Bool.Decides.{nat_tests}
use Rattle.protocol.specs.Ranges.{within?}
use Rattle.kinds.specs.Pools.{flat_numbered}
use Rattle.protocol.proofs.Made.{is_made, not_made}
use Rattle.kinds.proofs.Permits.{same_flat}
use Rattle.kinds.proofs.pool.holders.FlatTryFromU8.try_from.Goals as goal

pub returns-then-not-contains : goal.returns-then-not-contains
unfolding flat_numbered
returns-then-not-contains c = not_made _ (λ w. grind (arith, nat_tests)) (within? 1 200 c.args.number)

pub returns : goal.returns
unfolding flat_numbered
returns c = is_made _ _ (omega arith, omega arith) (λ h. same_flat _ _ (omega arith)) (within? 1 200 c.args.number)
