use Rattle.fields.proofs.Writes.{put_join}
use Rattle.texts.proofs.pool.PoolText.write.Goals as goal

pub returns : goal.returns
returns c = put_join _ _ _ _ _ c.write_row.ensures c.write.ensures
