use Rattle.fields.proofs.Writes.{put_join}
use Rattle.texts.proofs.parts.state.StateText.write.Goals as goal

pub returns : goal.returns
returns g c = put_join _ _ _ _ _ c.write.ensures (put_join _ _ _ _ _ c.write-2.ensures (put_join _ _ _ _ _ c.write-3.ensures c.write-4.ensures))
