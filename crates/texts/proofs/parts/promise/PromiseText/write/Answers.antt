use Rattle.fields.proofs.Writes.{put_join}
use Rattle.texts.proofs.parts.promise.PromiseText.write.Goals as goal

pub returns : goal.returns
returns c = put_join _ _ _ _ _ c.number.ensures c.number-2.ensures
