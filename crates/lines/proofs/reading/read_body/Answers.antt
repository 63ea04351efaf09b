use Rattle.fields.proofs.Joins.{then_fault, first_fault}
use Rattle.lines.proofs.Bodies.{body_exit}
use Rattle.lines.proofs.reading.read_body.Goals as goal

pub returns-in_err-number-in-Vote : goal.returns-in_err-number-in-Vote
returns-in_err-number-in-Vote g c =
    rw c.in-Vote.is (body_exit g.T.Text.form g.T.Text.items _ _ _ _ _ c.from_residual-in_err-number-in-Vote.ensures.1
    (first_fault _ _ _ _ _ c.in_err-number-in-Vote.ensures))

pub returns-in_err-value-in-Vote : goal.returns-in_err-value-in-Vote
returns-in_err-value-in-Vote g c =
    rw c.in-Vote.is (body_exit g.T.Text.form g.T.Text.items _ _ _ _ _ c.from_residual-in_err-value-in-Vote.ensures.1
    (then_fault _ _ _ _ _ _ _ c.in_ok-number-in-Vote.ensures c.in_err-value-in-Vote.ensures))

pub returns-in_err-keeper-in-Voted : goal.returns-in_err-keeper-in-Voted
returns-in_err-keeper-in-Voted g c =
    rw c.in-Voted.is (body_exit g.T.Text.form g.T.Text.items _ _ _ _ _ c.from_residual-in_err-keeper-in-Voted.ensures.1
    (first_fault _ _ _ _ _ c.in_err-keeper-in-Voted.ensures))

pub returns-in_err-number-in-Voted : goal.returns-in_err-number-in-Voted
returns-in_err-number-in-Voted g c =
    rw c.in-Voted.is (body_exit g.T.Text.form g.T.Text.items _ _ _ _ _ c.from_residual-in_err-number-in-Voted.ensures.1
    (then_fault _ _ _ _ _ _ _ c.in_ok-keeper-in-Voted.ensures c.in_err-number-in-Voted.ensures))
