use Rattle.texts.specs.Laws.{permit_read}
use Rattle.texts.proofs.pool.OptionPermitText.read.Goals as goal

pub returns : goal.returns
returns c = rw (c.ok.ensures.value, c.try_from.ensures, permit_read c.in_ok-number.number c.in_ok-number.ensures.fit.0.1) c.in_ok-number.ensures
