use Rattle.fields.proofs.Writes.{put_join}
use Rattle.lines.proofs.writing.write_body.Goals as goal

pub returns-in-Vote : goal.returns-in-Vote
returns-in-Vote g c = rw c.in-Vote.is (put_join _ _ _ _ _ c.write-in-Vote.ensures c.write-in-Vote-2.ensures)

pub returns-in-Voted : goal.returns-in-Voted
returns-in-Voted g c = rw c.in-Voted.is (put_join _ _ _ _ _ c.write-in-Voted.ensures c.write-in-Voted-2.ensures)
