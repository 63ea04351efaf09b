use Rattle.fields.proofs.Joins.{front_fault, went_fault, exit}
use Rattle.texts.specs.Parts.{promised_form, promise_form, promise_items}
use Rattle.texts.proofs.parts.promise.PromiseText.read.Goals as goal

pub returns-in_err-raised : goal.returns-in_err-raised
returns-in_err-raised c = exit promise_form promise_items _ _ _ _ c.from_residual.ensures.1 (front_fault _ _ _ promised_form _ c.in_err-raised.ensures)

pub returns-in_err-n : goal.returns-in_err-n
returns-in_err-n c =
    exit promise_form promise_items _ _ _ _ c.from_residual-in_err-n.ensures.1
    (went_fault _ _ _ promised_form _ _ _ c.in_ok-raised.ensures c.in_err-n.ensures)
