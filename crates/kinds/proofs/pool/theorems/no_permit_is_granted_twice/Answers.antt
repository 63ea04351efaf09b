use Rattle.kinds.proofs.Granting.{given_back_between}
use Rattle.kinds.proofs.pool.theorems.no_permit_is_granted_twice.Goals as goal

pub returns : goal.returns
returns c = given_back_between
