use Rattle.fields.proofs.Joins.{then_went, then_fault, first_fault, exit}
use Rattle.texts.specs.Pools.{pool_form, pool_items}
use Rattle.texts.proofs.pool.PoolText.read.Goals as goal

pub returns-in_err-holders : goal.returns-in_err-holders
unfolding pool_form
returns-in_err-holders c =
    exit pool_form pool_items _ _ _ _ c.from_residual.ensures.1 (first_fault _ _ _ _ _ c.in_err-holders.ensures.reads)

pub returns-in_err-last : goal.returns-in_err-last
unfolding pool_form
returns-in_err-last c =
    exit pool_form pool_items _ _ _ _ c.from_residual-in_err-last.ensures.1
    (then_fault _ _ _ _ _ _ _ c.in_ok-holders.ensures.reads c.in_err-last.ensures)

pub returns : goal.returns
unfolding pool_form
returns c = then_went _ _ _ _ _ _ _ c.in_ok-holders.ensures.reads c.in_ok-last.ensures
