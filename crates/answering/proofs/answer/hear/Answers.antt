use Rattle.std.proofs.Common.{refl}
use Rattle.answering.specs.Answers.{Heard, faulty, refused, replied}
use Rattle.answering.proofs.Fills.{came_out}
use Rattle.answering.proofs.answer.hear.Goals as goal

pub returns-in_err-message : goal.returns-in_err-message
returns-in_err-message g c =
    came_out (Heard _ _ _ _ _ _ _) _ _ c.from_residual.ensures.1
    (faulty c.in_err-message.field-0.0 c.in_err-message.ensures.tells_the_message_or_a_fault refl)

pub returns-in_err-receive : goal.returns-in_err-receive
returns-in_err-receive g c =
    came_out (Heard _ _ _ _ _ _ _) _ _ c.from_residual-in_err-receive.ensures.1
    (refused c.in_ok-message.message c.in_err-receive.field-0.0 c.in_ok-message.ensures.tells_the_message_or_a_fault c.in_err-receive.ensures)

pub returns : goal.returns
returns g c = replied c.in_ok-message.message c.in_ok-receive.field-0 c.in_ok-message.ensures.tells_the_message_or_a_fault c.in_ok-receive.ensures
