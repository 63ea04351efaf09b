use Rattle.std.proofs.Common.{take}
use Rattle.fields.specs.Buffers.{Wrote}
use Rattle.fields.proofs.buffer.Buffer.digits.Given as goal

abbrev pub invariant-loop-b : goal.invariant-loop-b
invariant-loop-b l = Wrote (take l.b-index l.b-items) l.initial.self l.self
