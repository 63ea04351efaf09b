use Rattle.std.proofs.Common.{◌≡◌, true, false, arith}
use Rattle.std.proofs.lemmas.Bool.{lt-ltb, le-ltb}
use Rattle.journal.specs.Journals.{journal_open}
use Rattle.journal.proofs.Puts.{records_at, records_past, records_put}
use Rattle.journal.proofs.journal.keeping.JournalStoreStore.put.Goals as goal

pub returns-then-register-self-clause-answers : goal.returns-then-register-self-clause-answers
returns-then-register-self-clause-answers g c = rw (records_past c.args.self.now c.args.register (omega arith))

pub returns-then-len-self-clause-answers : goal.returns-then-len-self-clause-answers
returns-then-len-self-clause-answers g c =
    let shut : journal_open c.args.self.now ≡ false = le-ltb _ _ (omega arith) in
    rw (records_at c.args.self.now c.args.register (omega arith), shut)

pub returns-clause-answers : goal.returns-clause-answers
returns-clause-answers g c =
    let free : journal_open c.args.self.now ≡ true = lt-ltb _ _ (omega arith) in
    rw (records_at c.args.self.now c.args.register (omega arith), free)

pub returns-clause-replaces_that_record_only : goal.returns-clause-replaces_that_record_only
returns-clause-replaces_that_record_only g c = records_put c.args.self.now c.args.register c.args.new.now c.add.new.self (omega arith) c.add.ensures
