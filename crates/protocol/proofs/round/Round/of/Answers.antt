use Rattle.std.proofs.Common.{arith}
use Rattle.protocol.proofs.Same.{same_round}
use Rattle.protocol.proofs.round.Round.of.Goals as goal

pub returns : goal.returns
returns c = same_round _ _ (omega arith) (omega arith) (omega arith)
