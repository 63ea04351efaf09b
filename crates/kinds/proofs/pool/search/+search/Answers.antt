use Rattle.std.proofs.Common.{◌≡◌, arith}
use Rattle.kinds.specs.Pools.{search_after}
use Rattle.kinds.proofs.Searches.{search_step}
use Rattle.kinds.proofs.pool.search.+search.Goals as goal

pub returns-then-left-eq0 : goal.returns-then-left-eq0
unfolding search_after
returns-then-left-eq0 t c = let e : c.args.left ≡ 0 = omega arith in rw e

pub returns-then-is_free : goal.returns-then-is_free
returns-then-is_free t c = rw (search_step _ _ c.args.left (omega arith), ← c.after-next.ensures, ← c.is_free.ensures, c.if-is_free.true)

pub returns-else-is_free : goal.returns-else-is_free
returns-else-is_free t c = rw (search_step _ _ c.args.left (omega arith), ← c.after-next.ensures, ← c.is_free.ensures, c.if-is_free.false) c.search.ensures
