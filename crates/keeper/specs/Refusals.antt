-- Why a keeper refuses, in the words that the whole library shares.
use Rattle.protocol.specs.declared.refusal.Reason.{Reason}
use Rattle.protocol.specs.declared.refusal.Reason.TheVariants as reason
use Rattle.keeper.specs.declared.refusal.KeeperRefusal.{KeeperRefusal}
use Rattle.keeper.specs.declared.refusal.KeeperRefusal.TheVariants as keeper

abbrev pub keeper_reason : KeeperRefusal → Reason
keeper_reason keeper.WrongMessage = reason.WrongMessage
keeper_reason keeper.UnknownRegister = reason.UnknownRegister
keeper_reason keeper.CounterAtTop = reason.CounterAtTop
keeper_reason keeper.Stale = reason.Stale
keeper_reason keeper.StoreShut = reason.StoreShut
