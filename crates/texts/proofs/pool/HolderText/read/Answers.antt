use Rattle.std.proofs.Common.{sym, ap, ◌∙◌, subst}
use Rattle.fields.specs.Readers.{Went}
use Rattle.kinds.specs.Pools.{flat_of}
use Rattle.kinds.proofs.Permits.{says_it}
use Rattle.texts.specs.Pools.{holder_form, holder_items}
use Rattle.texts.proofs.pool.HolderText.read.Goals as goal

pub returns : goal.returns
returns c =
    subst (λ flat. Went c.args.reader.now c.read.new.reader holder_form (holder_items flat))
    (sym (ap flat_of c.into.ensures ∙ says_it c.in_ok-flat.flat)) c.in_ok-flat.ensures
