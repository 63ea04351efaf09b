use Rattle.std.proofs.Common.{◌≡◌, true, Some, rules, ap}
use Rattle.std.specs.Option.{option_eq}
use Rattle.kinds.specs.Pools.{one_flat?, holder_of, count_of}
use Rattle.kinds.proofs.pool.Pool.give_back.Goals as goal

pub returns : goal.returns
returns c =
    let his : option_eq one_flat? (holder_of c.args.self.now c.args.permit) (Some c.args.flat) ≡ true = search rules in
    rw his (let after = ap count_of c.with_holder-after.ensures in cc)
