use Rattle.fields.proofs.Joins.{then_went, then_fault, first_fault, exit}
use Rattle.texts.specs.Parts.{state_form, state_items}
use Rattle.texts.proofs.parts.state.StateText.read.Goals as goal

pub returns-in_err-keeper : goal.returns-in_err-keeper
returns-in_err-keeper g c =
    exit (state_form g.T.Text.form) (state_items g.T.Text.items) _ _ _ _ c.from_residual.ensures.1
    (first_fault _ _ _ _ _ c.in_err-keeper.ensures)

pub returns-in_err-promise : goal.returns-in_err-promise
returns-in_err-promise g c =
    exit (state_form g.T.Text.form) (state_items g.T.Text.items) _ _ _ _ c.from_residual-in_err-promise.ensures.1
    (then_fault _ _ _ _ _ _ _ c.in_ok-keeper.ensures (first_fault _ _ _ _ _ c.in_err-promise.ensures))

pub returns-in_err-voted : goal.returns-in_err-voted
returns-in_err-voted g c =
    exit (state_form g.T.Text.form) (state_items g.T.Text.items) _ _ _ _ c.from_residual-in_err-voted.ensures.1
    (then_fault _ _ _ _ _ _ _ c.in_ok-keeper.ensures (then_fault _ _ _ _ _ _ _ c.in_ok-promise.ensures (first_fault _ _ _ _ _ c.in_err-voted.ensures)))

pub returns-in_err-value : goal.returns-in_err-value
returns-in_err-value g c =
    exit (state_form g.T.Text.form) (state_items g.T.Text.items) _ _ _ _ c.from_residual-in_err-value.ensures.1
    (then_fault _ _ _ _ _ _ _ c.in_ok-keeper.ensures (then_fault _ _ _ _ _ _ _ c.in_ok-promise.ensures (then_fault _ _ _ _ _ _ _ c.in_ok-voted.ensures c.in_err-value.ensures)))

pub returns : goal.returns
returns g c =
    then_went _ _ _ _ _ _ _ c.in_ok-keeper.ensures (then_went _ _ _ _ _ _ _ c.in_ok-promise.ensures (then_went _ _ _ _ _ _ _ c.in_ok-voted.ensures c.in_ok-value.ensures))
