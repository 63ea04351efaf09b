use Rattle.std.proofs.Common.{take}
use Rattle.std.specs.List.{flat_map}
use Rattle.fields.specs.Buffers.{Put}
use Rattle.texts.proofs.row.write_row.Given as goal

abbrev pub invariant-loop-piece : goal.invariant-loop-piece
invariant-loop-piece g l = Put (flat_map g.P.Text.items (take l.piece-index l.row)) l.initial.buffer l.buffer
