use Rattle.fields.specs.Forms.{num}
use Rattle.fields.proofs.Writes.{put_one}
use Rattle.fields.proofs.buffer.Buffer.number.Goals as goal

pub returns : goal.returns
returns c = put_one (num c.args.n) _ _ _ c.byte.ensures c.digits.ensures
