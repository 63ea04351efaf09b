use Rattle.std.proofs.Common.{◌+◌, subst, arith, rules}
use Rattle.fields.specs.Readers.{Went}
use Rattle.fields.proofs.Joins.{exit}
use Rattle.std.specs.List.{flat_map}
use Rattle.texts.specs.Rows.{times}
use Rattle.texts.specs.Rowed.{went_more, went_amiss, joined_set}
use Rattle.texts.proofs.row.read_row.Goals as goal

pub returns-in_err-place-clause-reads : goal.returns-in_err-place-clause-reads
returns-in_err-place-clause-reads g c =
    exit (times g.row.N g.P.Text.form) (flat_map g.P.Text.items) _ _ c.from_residual.result _ c.from_residual.ensures.1
    (went_amiss g.P.Text.form _ _ _ c.loop-place.place-index g.row.N _ _ (omega arith) c.loop-place.invariant.so_far c.in_err-place.ensures)

pub loop-place-preserved : goal.loop-place-preserved
loop-place-preserved g c = record {
  whole = search rules;
  so_far = subst (Went c.args.reader.now c.read.new.reader (times (c.loop-place.place-index + 1) g.P.Text.form)) (joined_set g.P.Text.items c.loop-place.place-items c.loop-place.place-index c.in_ok-place.field-0 (omega arith))
      (went_more g.P.Text.form _ _ _ c.loop-place.place-index _ _ c.loop-place.invariant.so_far c.in_ok-place.ensures);
}
