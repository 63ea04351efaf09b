use Rattle.std.proofs.Common.{ap, ◌∙◌}
use Rattle.lines.specs.Letters.{letter}
use Rattle.lines.proofs.Written.{wrote_line}
use Rattle.lines.proofs.writing.write_line.Goals as goal

pub returns : goal.returns
returns g c = wrote_line g.T.Text.items c.args.message.now _ _ _ _ _ _ (c.into.ensures ∙ ap letter c.of-kind.ensures) c.byte.ensures c.write.ensures c.write_body.ensures c.byte-2.ensures
