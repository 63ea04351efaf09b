use Rattle.std.proofs.Common.{refl}
use Rattle.fields.proofs.Parts.{passed}
use Rattle.fields.proofs.reader.Reader.next.Goals as goal

pub returns : goal.returns
returns c =
    let f = c.field_end-to.ensures in
    let t = c.token_of.ensures in
    passed c.args.self.now _ c.token_of.result refl c.if-line-self-eq10.false
    (record { after = f.after; within = f.within; plain = f.plain; stops = f.stops })
    t.bytes t.at
