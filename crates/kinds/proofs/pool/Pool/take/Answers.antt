use Rattle.std.proofs.Common.{◌≡◌, Some, ap, refl, arith}
use Rattle.kinds.specs.declared.pool.Pool.{Pool}
use Rattle.kinds.specs.Pools.{first_free}
use Rattle.kinds.proofs.Permits.{same_pool, same_carried}
use Rattle.kinds.proofs.pool.Pool.take.Goals as goal

pub returns : goal.returns
returns c =
    let permit = c.in_ok-permit.permit in
    let found : first_free c.args.self.now ≡ Some permit = cc c.in_ok-permit.ensures.ok_part in
    rw found (same_carried _ _ _ _ (same_pool _ _ (ap (λ (x : Pool). x.holders) c.with_holder-pool.ensures) refl) (omega arith))
