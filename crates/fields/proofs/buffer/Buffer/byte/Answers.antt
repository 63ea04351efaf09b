use Rattle.std.proofs.Common.{arith}
use Rattle.fields.proofs.Writes.{byte_kept, byte_lost}
use Rattle.fields.proofs.buffer.Buffer.byte.Goals as goal

pub returns-then-self-lt-LONGEST : goal.returns-then-self-lt-LONGEST
returns-then-self-lt-LONGEST c =
    let p = c.args.self.now in
    record { counted = omega arith; kept = byte_kept p.bytes p.count c.args.b p.whole (omega arith) }

pub returns-else-self-lt-LONGEST : goal.returns-else-self-lt-LONGEST
returns-else-self-lt-LONGEST c =
    let p = c.args.self.now in
    record { counted = omega arith; kept = byte_lost p.bytes p.count c.args.b p.whole (omega arith) }
