use Rattle.lines.proofs.Lengths.{line_short}
use Rattle.lines.proofs.theorems.a_line_is_bounded_by_its_fields.Goals as goal

pub returns : goal.returns
returns g c = line_short g.T.Text.form g.T.Text.items g.met.T.Text.fits
