use Rattle.std.proofs.Common.{rules}
use Rattle.fields.specs.Forms.{range, num}
use Rattle.fields.proofs.Parts.{right_number, wrong_number, read_one}
use Rattle.fields.proofs.reader.Reader.number.Goals as goal

pub returns : goal.returns
returns c =
    read_one (range c.args.low c.args.high) num _ _ _ _ c.field.ensures
    (λ t n h. right_number _ _ n t.bytes.now t.kind t.says (search rules))
    (λ t k h. wrong_number _ _ t.bytes.now t.kind k t.says (search rules))
