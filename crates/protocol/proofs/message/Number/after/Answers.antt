use Rattle.std.proofs.Common.{arith}
use Rattle.protocol.proofs.Same.{after_some, after_none}
use Rattle.protocol.proofs.message.Number.after.Goals as goal

pub returns-then-round-lt-TOP : goal.returns-then-round-lt-TOP
returns-then-round-lt-TOP c = after_some _ c.args.round.now (omega arith)

pub returns-else-round-lt-TOP : goal.returns-else-round-lt-TOP
returns-else-round-lt-TOP c = after_none c.args.round.now (omega arith)
