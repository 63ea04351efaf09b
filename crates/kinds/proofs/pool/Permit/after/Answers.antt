use Rattle.std.proofs.Common.{arith}
use Rattle.kinds.proofs.Permits.{is_next}
use Rattle.kinds.proofs.pool.Permit.after.Goals as goal

pub returns : goal.returns
returns c = is_next _ c.args.permit (λ l. grind arith) (λ l. grind arith)
