use Rattle.std.proofs.Common.{replicate, refl, ap, ◌∙◌, arith, rules}
use Rattle.std.proofs.lemmas.Bool.{lt-ltb}
use Rattle.protocol.specs.Records.{new_record}
use Rattle.journal.specs.Journals.{records_after}
use Rattle.journal.proofs.Puts.{records_none}
use Rattle.journal.proofs.journal.JournalStore.new.Goals as goal

pub returns : goal.returns
returns g c =
    let n = c.args.registers in
    let fresh = c.new-2.result in
    let new = c.new-2.ensures ∙ ap new_record c.start.ensures in
    let made = c.in_ok-with_capacity.ensures in
    record {
      range = search rules;
      registers_asked = refl;
      places_asked = refl;
      fresh_is_new = new;
      no_entry = made.items;
      every_record_new = ap (records_after n fresh) made.items ∙ records_none n fresh ∙ ap (replicate n) new;
      is_open = lt-ltb _ _ (omega arith);
    }
