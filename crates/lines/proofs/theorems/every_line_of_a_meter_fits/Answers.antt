use Rattle.lines.proofs.Lengths.{meter_line_short}
use Rattle.lines.proofs.theorems.every_line_of_a_meter_fits.Goals as goal

pub returns : goal.returns
returns c = meter_line_short
