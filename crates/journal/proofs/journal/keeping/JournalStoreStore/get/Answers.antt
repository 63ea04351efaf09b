use Rattle.std.proofs.Common.{Ok, ap, arith}
use Rattle.journal.proofs.Puts.{records_at, records_past}
use Rattle.journal.proofs.journal.keeping.JournalStoreStore.get.Goals as goal

pub returns-then-register-self : goal.returns-then-register-self
returns-then-register-self g c = rw (records_at c.args.self.now c.args.register (omega arith)) (ap Ok c.latest.ensures)

pub returns-else-register-self : goal.returns-else-register-self
returns-else-register-self g c = rw (records_past c.args.self.now c.args.register (omega arith))
