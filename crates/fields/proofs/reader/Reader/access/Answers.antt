use Rattle.std.proofs.Common.{rules}
use Rattle.fields.specs.Forms.{letter, access}
use Rattle.fields.specs.Readers.{access_letter}
use Rattle.fields.proofs.Parts.{right_access, wrong_access, read_one}
use Rattle.fields.proofs.reader.Reader.access.Goals as goal

pub returns : goal.returns
returns c =
    read_one access (λ a. letter (access_letter a)) _ _ _ _ c.field.ensures
    (λ t a h. right_access a t.bytes.now t.kind t.says (search rules))
    (λ t k h. wrong_access t.bytes.now t.kind k t.says (search rules))
