use Rattle.fields.proofs.Writes.{put_join}
use Rattle.texts.proofs.parts.head.HeadText.write.Goals as goal

pub returns : goal.returns
returns c = put_join _ _ _ _ _ c.number.ensures (put_join _ _ _ _ _ c.number-2.ensures c.number-3.ensures)
