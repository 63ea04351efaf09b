use Rattle.std.proofs.Common.{arith, refl}
use Rattle.fields.proofs.Writes.{wrote_none, wrote_more}
use Rattle.fields.proofs.buffer.Buffer.digits.Goals as goal

pub loop-b-init : goal.loop-b-init
loop-b-init c = wrote_none c.args.self.now

pub loop-b-preserved : goal.loop-b-preserved
loop-b-preserved c = wrote_more _ c.loop-b.b-index _ _ _ _ (omega arith) refl c.loop-b.invariant c.byte.ensures
