use Rattle.std.proofs.Common.{refl}
use native.Mathlib.Bridge.{IsLe}
use native.Mathlib.Decide.{dec_le}
use Rattle.protocol.specs.Rounds.{number_after}
use Rattle.kinds.specs.Pools.{new_pool, permit_numbered, flat_numbered, permit_after, search_after}
use Rattle.once.specs.Layers.{new_sessions, writer_of}
use Rattle.worked_cases.proofs.theorems.every_worked_case_holds.Goals as goal

pub returns : goal.returns
unfolding IsLe dec_le number_after new_pool permit_numbered flat_numbered permit_after search_after new_sessions writer_of
returns c = (refl, (refl, (refl, (refl, (refl, (refl, (refl, (refl, ((refl, refl), ((refl, refl), ((refl, refl), tt)))))))))))
