use Rattle.fields.proofs.Joins.{then_fault, first_fault, exit}
use Rattle.texts.specs.Parts.{round_form, round_items}
use Rattle.texts.proofs.parts.round.RoundText.read.Goals as goal

pub returns-in_err-n : goal.returns-in_err-n
returns-in_err-n c = exit round_form round_items _ _ _ _ c.from_residual.ensures.1 (first_fault _ _ _ _ _ c.in_err-n.ensures)

pub returns-in_err-hub : goal.returns-in_err-hub
returns-in_err-hub c =
    exit round_form round_items _ _ _ _ c.from_residual-in_err-hub.ensures.1
    (then_fault _ _ _ _ _ _ _ c.in_ok-n.ensures (first_fault _ _ _ _ _ c.in_err-hub.ensures))

pub returns-in_err-attempt : goal.returns-in_err-attempt
returns-in_err-attempt c =
    exit round_form round_items _ _ _ _ c.from_residual-in_err-attempt.ensures.1
    (then_fault _ _ _ _ _ _ _ c.in_ok-n.ensures (then_fault _ _ _ _ _ _ _ c.in_ok-hub.ensures c.in_err-attempt.ensures))
