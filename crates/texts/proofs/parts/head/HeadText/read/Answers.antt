use Rattle.fields.proofs.Joins.{then_fault, first_fault, exit}
use Rattle.texts.specs.Parts.{head_form, head_items}
use Rattle.texts.proofs.parts.head.HeadText.read.Goals as goal

pub returns-in_err-register : goal.returns-in_err-register
returns-in_err-register c = exit head_form head_items _ _ _ _ c.from_residual.ensures.1 (first_fault _ _ _ _ _ c.in_err-register.ensures)

pub returns-in_err-hub : goal.returns-in_err-hub
returns-in_err-hub c =
    exit head_form head_items _ _ _ _ c.from_residual-in_err-hub.ensures.1
    (then_fault _ _ _ _ _ _ _ c.in_ok-register.ensures (first_fault _ _ _ _ _ c.in_err-hub.ensures))

pub returns-in_err-attempt : goal.returns-in_err-attempt
returns-in_err-attempt c =
    exit head_form head_items _ _ _ _ c.from_residual-in_err-attempt.ensures.1
    (then_fault _ _ _ _ _ _ _ c.in_ok-register.ensures (then_fault _ _ _ _ _ _ _ c.in_ok-hub.ensures c.in_err-attempt.ensures))
