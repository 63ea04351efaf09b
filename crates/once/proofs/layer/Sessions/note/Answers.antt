use Rattle.std.proofs.Common.{arith}
use Rattle.once.proofs.Same.{same_sessions, same_entry}
use Rattle.once.proofs.layer.Sessions.note.Goals as goal

pub returns : goal.returns
returns c = same_sessions _ _ (same_entry c.args.self.now.table _ _ _ _ (omega arith) (omega arith) (omega arith))
