use Rattle.std.proofs.Common.{◌≡◌, true, leb, length, arith, rules}
use Rattle.std.proofs.lemmas.Bool.{le-leb}
use Rattle.journal.proofs.Cleans.{records_cleaned, open_cleaned}
use Rattle.journal.proofs.journal.keeping.JournalStoreStore.clean.Goals as goal

pub returns-clause-cleaned : goal.returns-clause-cleaned
returns-clause-cleaned g c =
    let s = c.args.self.now in
    let after = c.compact.new.self in
    let e = c.compact.ensures.cleans in
    let long : leb s.registers (length c.args.scratch.now) ≡ true = le-leb _ _ (omega arith) in
    record {
      answers = rw long;
      cleans_in_its_way = λ _. e;
      every_record_stays = records_cleaned s after e;
      an_open_store_stays_open = λ _. open_cleaned s after e;
      a_refusal_changes_nothing = search rules;
    }

pub returns-clause-is_open_after_a_cleaning : goal.returns-clause-is_open_after_a_cleaning
returns-clause-is_open_after_a_cleaning g c = λ _. open_cleaned c.args.self.now c.compact.new.self c.compact.ensures.cleans
