use Rattle.std.proofs.Common.{replicate, ap}
use Rattle.once.specs.Layers.{new_sessions}
use Rattle.once.proofs.Same.{same_sessions}
use Rattle.once.proofs.layer.Sessions.new.Goals as goal

pub returns : goal.returns
unfolding new_sessions
returns c = same_sessions _ new_sessions (ap (replicate 15) c.none.ensures)
