use Rattle.texts.specs.Laws.{flat_read}
use Rattle.texts.proofs.pool.OptionFlatText.read.Goals as goal

pub returns : goal.returns
returns c = rw (c.ok.ensures.value, c.try_from.ensures, flat_read c.in_ok-number.number c.in_ok-number.ensures.fit.0.1) c.in_ok-number.ensures
