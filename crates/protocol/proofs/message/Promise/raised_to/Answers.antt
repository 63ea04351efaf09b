use Rattle.std.proofs.Common.{arith, rules}
use Rattle.protocol.proofs.Same.{same_promise}
use Rattle.protocol.proofs.message.Promise.raised_to.Goals as goal

pub returns : goal.returns
returns c = same_promise _ _ (search rules) (omega arith)
