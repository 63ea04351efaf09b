use Rattle.fields.proofs.Joins.{then_fault, first_fault}
use Rattle.lines.specs.Lines.{frame}
use Rattle.lines.proofs.Opens.{unknown_letter, told_fault, told_message, told_extra}
use Rattle.lines.proofs.Whole.{reads_message, reads_fault}
use Rattle.lines.proofs.line.read.Goals as goal

pub returns-in_err-first : goal.returns-in_err-first
returns-in_err-first g c =
    let f = c.in_err-first.ensures in
    reads_fault g.T.Text.form g.T.Text.items g.met.T.Text.fits g.met.T.Text.apart _ _ _ c.from_residual.ensures.1
    (frame f.0 f.1 f.2)

pub returns-in_err-kind : goal.returns-in_err-kind
returns-in_err-kind g c =
    reads_fault g.T.Text.form g.T.Text.items g.met.T.Text.fits g.met.T.Text.apart _ _ _ c.from_residual-in_err-kind.ensures.1
    (unknown_letter g.T.Text.form g.T.Text.items _ _ _ c.in_ok-first.ensures _ c.in_err-kind.ensures)

pub returns-in_err-head : goal.returns-in_err-head
returns-in_err-head g c =
    reads_fault g.T.Text.form g.T.Text.items g.met.T.Text.fits g.met.T.Text.apart _ _ _ c.from_residual-in_err-head.ensures.1
    (told_fault g.T.Text.form g.T.Text.items _ _ _ c.in_ok-first.ensures _ c.in_ok-kind.ensures _ _ (first_fault _ _ _ _ _ c.in_err-head.ensures))

pub returns-in_err-body : goal.returns-in_err-body
returns-in_err-body g c =
    reads_fault g.T.Text.form g.T.Text.items g.met.T.Text.fits g.met.T.Text.apart _ _ _ c.from_residual-in_err-body.ensures.1
    (told_fault g.T.Text.form g.T.Text.items _ _ _ c.in_ok-first.ensures _ c.in_ok-kind.ensures _ _ (then_fault _ _ _ _ _ _ _ c.in_ok-head.ensures c.in_err-body.ensures))

pub returns-in_err-end : goal.returns-in_err-end
returns-in_err-end g c =
    reads_fault g.T.Text.form g.T.Text.items g.met.T.Text.fits g.met.T.Text.apart _ _ _ c.from_residual-in_err-end.ensures.1
    (told_extra g.T.Text.form g.T.Text.items _ _ _ c.in_ok-first.ensures _ c.in_ok-kind.ensures c.in_ok-head.head c.in_ok-body.body _ _ c.in_ok-head.ensures c.in_ok-body.ensures _ c.in_err-end.ensures)

pub returns : goal.returns
returns g c =
    reads_message g.T.Text.form g.T.Text.items g.met.T.Text.fits g.met.T.Text.apart _ _
    (told_message g.T.Text.form g.T.Text.items _ _ _ c.in_ok-first.ensures _ c.in_ok-kind.ensures c.in_ok-head.head c.in_ok-body.body _ _ c.in_ok-head.ensures c.in_ok-body.ensures c.in_ok-end.ensures)
