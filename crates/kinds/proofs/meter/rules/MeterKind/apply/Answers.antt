use Rattle.std.proofs.Common.{◌≡◌, ◌+◌, true, ◌&&◌, leb, arith, rules}
use native.Mathlib.Decide.{dec_le}
use Rattle.kinds.proofs.Totals.{carried}
use Rattle.kinds.proofs.meter.rules.MeterKind.apply.Goals as goal

pub returns : goal.returns
returns c =
    let amount = c.args.command.now.amount in
    let total = c.args.self.now.total + amount in
    let within : (leb 1 amount && leb amount 1000000) ≡ true = search rules in
    rw within (carried _ total (dec_le total 4000000000) (omega arith))
