use Rattle.std.proofs.Common.{arith}
use Rattle.once.proofs.Same.{is_writer, no_writer}
use Rattle.once.proofs.layer.table.WriterTryFromRefRequest.try_from.Goals as goal

pub returns-then-not-contains : goal.returns-then-not-contains
returns-then-not-contains g c = no_writer c.args.request.now.hub c.args.request.now.number (λ h n. grind arith)

pub returns : goal.returns
returns g c = is_writer _
