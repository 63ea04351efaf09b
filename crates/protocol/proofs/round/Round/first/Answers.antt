use Rattle.std.proofs.Common.{arith}
use Rattle.protocol.specs.Rounds.{first_round}
use Rattle.protocol.proofs.Same.{same_round}
use Rattle.protocol.proofs.round.Round.first.Goals as goal

pub returns : goal.returns
returns c = same_round _ first_round (omega arith) (omega arith) (omega arith)
