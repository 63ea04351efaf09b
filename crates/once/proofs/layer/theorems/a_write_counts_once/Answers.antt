use Rattle.once.proofs.Entries.{entries_are_last_writes, numbers_grow, no_write_twice, repeats_are_answered}
use Rattle.once.proofs.layer.theorems.a_write_counts_once.Goals as goal

pub returns : goal.returns
returns g c = record {
  an_entry_is_the_hubs_last_write = entries_are_last_writes _ _;
  a_hubs_numbers_grow = numbers_grow _;
  no_write_stands_twice = no_write_twice _;
  a_repeated_write_has_its_first_answer = repeats_are_answered _;
}
