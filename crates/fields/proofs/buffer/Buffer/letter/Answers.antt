use Rattle.fields.specs.Forms.{letter}
use Rattle.fields.proofs.Writes.{put_one}
use Rattle.fields.proofs.buffer.Buffer.letter.Goals as goal

pub returns : goal.returns
returns c = put_one (letter c.args.b) _ _ _ c.byte.ensures c.byte-2.ensures
