-- A keeper over a store: what comes of a message, over all the keeper's records.
use Rattle.std.specs.Prelude.{◌≡◌, ℕ, ◌<◌, Bool, true, false, cond, List, is_ok, Some, None, Ok, Err, Option, Result}
use Rattle.std.specs.List.{slice_get}
use Rattle.protocol.specs.declared.group.GroupSize.{GroupSize}
use Rattle.protocol.specs.declared.message.KeeperId.{KeeperId}
use Rattle.protocol.specs.declared.message.Message.{Message}
use Rattle.protocol.specs.declared.record.Record.{Record}
use Rattle.protocol.specs.Groups.{keepers_in}
use Rattle.protocol.specs.Stores.{records_after_put}
use Rattle.keeper.specs.declared.keeper.Keeper.{Keeper}
use Rattle.keeper.specs.declared.keeper.NoKeeper.{NoKeeper}
use Rattle.keeper.specs.declared.refusal.KeeperRefusal.{KeeperRefusal}
use Rattle.keeper.specs.declared.refusal.KeeperRefusal.TheVariants.{WrongMessage, UnknownRegister, StoreShut}
use Rattle.keeper.specs.declared.step.Step.{Step}
use Rattle.keeper.specs.declared.step.Step.TheVariants.{Answered, Stored}
use Rattle.keeper.specs.Steps.{asks, keeper_step}

-- a keeper is made of a number below the group's size; of any other the store is handed back
abbrev pub MakesKeeperOver : {S V : Type 0} → ℕ → GroupSize → S → Result (Keeper S V) (NoKeeper S) → Type 0
MakesKeeperOver id group store (Ok keeper) = (id < keepers_in group) × (keeper.id.id ≡ id) × (keeper.store ≡ store)
MakesKeeperOver id group store (Err e) = (id < keepers_in group → ⊥) × (e.store ≡ store)

abbrev pub step_over : {V : Type 0} → KeeperId → Option (Record V) → Message V → Result (Step V) KeeperRefusal
step_over keeper None m = Err UnknownRegister
step_over keeper (Some r) m = keeper_step keeper r m

-- what a keeper does with a message: a reply is refused first, then an unknown register, then the rules decide
abbrev pub receiving : {V : Type 0} → KeeperId → List (Record V) → Message V → Result (Step V) KeeperRefusal
receiving keeper records m = cond (asks m.body) (step_over keeper (slice_get records m.head.register) m) (Err WrongMessage)

-- what it replies: a step that stores is refused where the store is shut
abbrev pub reply_of : {V : Type 0} → Bool → Result (Step V) KeeperRefusal → Result (Message V) KeeperRefusal
reply_of open? (Err e) = Err e
reply_of open? (Ok (Answered reply)) = Ok reply
reply_of open? (Ok (Stored new reply)) = cond open? (Ok reply) (Err StoreShut)

-- the records that it has then: a step that stores replaces that of the message's register, and no other
abbrev pub records_after : {V : Type 0} → Bool → List (Record V) → ℕ → Result (Step V) KeeperRefusal → List (Record V)
records_after open? records register (Err e) = records
records_after open? records register (Ok (Answered reply)) = records
records_after open? records register (Ok (Stored new reply)) = records_after_put open? records register new

abbrev pub stores? : {V : Type 0} → Result (Step V) KeeperRefusal → Bool
stores? (Err e) = false
stores? (Ok (Answered reply)) = false
stores? (Ok (Stored new reply)) = true

-- a keeper received a message, over what its store means: its reply and its records after are those of
-- the step that the rules define; and where nothing is stored, nothing changes
pub record Received {S V : Type 0} (records : S → List (Record V)) (opened : S → Bool) (before : Keeper S V) (m : Message V) (reply : Result (Message V) KeeperRefusal) (after : Keeper S V) : Type 0 where
  pub replies_by_the_rules : reply ≡ reply_of (opened before.store) (receiving before.id (records before.store) m)
  pub keeps_records_by_the_rules : records after.store ≡ records_after (opened before.store) (records before.store) m.head.register (receiving before.id (records before.store) m)
  pub keeps_its_number : after.id ≡ before.id
  pub a_refusal_changes_nothing : is_ok reply ≡ false → after ≡ before
  pub only_a_step_that_stores_changes_anything : stores? (receiving before.id (records before.store) m) ≡ false → after ≡ before
