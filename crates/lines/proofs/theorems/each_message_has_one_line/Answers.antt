use Rattle.lines.proofs.Whole.{one_line}
use Rattle.lines.proofs.theorems.each_message_has_one_line.Goals as goal

pub returns : goal.returns
returns g c = one_line g.T.Text.form g.T.Text.items g.met.T.Text.fits g.met.T.Text.apart
