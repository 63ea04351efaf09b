use Rattle.std.proofs.Common.{subst, arith}
use Rattle.fields.specs.Buffers.{Put}
use Rattle.fields.proofs.Writes.{put_join}
use Rattle.texts.specs.Rowed.{put_none, joined_take}
use Rattle.texts.proofs.row.write_row.Goals as goal

pub loop-piece-init : goal.loop-piece-init
loop-piece-init g c = put_none c.args.buffer.now

pub loop-piece-preserved : goal.loop-piece-preserved
loop-piece-preserved g c =
    subst (λ is. Put is c.args.buffer.now c.write.new.buffer) (joined_take g.P.Text.items c.args.row.now c.loop-piece.piece-index c.piece-item.result (omega arith) c.piece-item.is)
    (put_join _ _ _ _ _ c.loop-piece.invariant c.write.ensures)
