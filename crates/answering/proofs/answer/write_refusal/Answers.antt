use Rattle.std.proofs.Common.{subst, arith}
use Rattle.answering.specs.Answers.{refusal_line, Filled}
use Rattle.answering.proofs.Fills.{filled_refusal}
use Rattle.answering.proofs.answer.write_refusal.Goals as goal

pub returns : goal.returns
returns c =
    subst (λ n. Filled (refusal_line n) c.byte-2.new.self) c.from.ensures
    (filled_refusal c.from.result _ _ _ _ (omega arith) c.clear.ensures c.byte.ensures c.number.ensures c.byte-2.ensures)
