use Rattle.std.proofs.Common.{◌≡◌, length, take}
use Rattle.std.specs.List.{flat_map}
use Rattle.fields.specs.Readers.{Went}
use Rattle.texts.specs.Rows.{times}
use Rattle.texts.proofs.row.read_row.Given as goal

abbrev pub invariant-loop-place : goal.invariant-loop-place
invariant-loop-place g l = record {
  whole : length l.place-items ≡ g.row.N;
  so_far : Went l.initial.reader l.reader (times l.place-index g.P.Text.form) (flat_map g.P.Text.items (take l.place-index l.place-items));
}
