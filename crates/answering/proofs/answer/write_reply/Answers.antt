use Rattle.answering.specs.Answers.{in_full}
use Rattle.answering.proofs.Fills.{filled}
use Rattle.answering.proofs.answer.write_reply.Goals as goal

pub returns-in_default : goal.returns-in_default
returns-in_default g c = in_full (filled _ _ _ c.clear.ensures c.write_line.ensures c.in_default.ensures.1)
