use Rattle.std.proofs.Common.{◌∙◌, arith}
use Rattle.lines.proofs.Written.{whole_line, stands_first}
use Rattle.lines.proofs.line.write.Goals as goal

pub returns : goal.returns
returns g c =
    let kept = c.in_ok-line.ensures in
    let w = whole_line _ _ _ c.new-buffer.ensures c.write_line.ensures kept.1 in
    stands_first _ _ _ _ c.copy_from_slice.ensures.after (kept.0 ∙ w.1) (omega arith) (omega (arith, w.0, kept.1))
