-- What a worked case is: what was done before, what is asked, and what comes of it by the rules.
use Rattle.std.specs.Prelude.{◌≡◌, ℕ, true, List, [], ◌∷◌, Ok, Err, Result, replicate}
use Rattle.std.proofs.Common.{arith}
use Rattle.protocol.specs.declared.kind.Applied.{Applied}
use Rattle.protocol.specs.declared.kind.Applied.TheVariants.{Carried, Already}
use Rattle.protocol.specs.declared.kind.Denial.{Denial}
use Rattle.protocol.specs.declared.message.KeeperId.{KeeperId}
use Rattle.protocol.specs.declared.message.Message.{Message}
use Rattle.protocol.specs.declared.record.Record.{Record}
use Rattle.protocol.specs.Records.{new_record}
use Rattle.protocol.specs.Refusals.{number_of, denial_number}
use Rattle.kinds.specs.declared.meter.Meter.{Meter}
use Rattle.kinds.specs.declared.pool.Pool.{Pool}
use Rattle.kinds.specs.declared.pool.PoolCommand.{PoolCommand}
use Rattle.kinds.specs.Meters.{zero_meter}
use Rattle.kinds.specs.Pools.{new_pool, pool_applies}
use Rattle.once.specs.declared.layer.Request.{Request}
use Rattle.once.specs.Layers.{new_layer, once_applies}
use Rattle.keeper.specs.declared.refusal.KeeperRefusal.{KeeperRefusal}
use Rattle.keeper.specs.declared.step.Step.{Step}
use Rattle.keeper.specs.declared.step.Step.TheVariants.{Answered, Stored}
use Rattle.keeper.specs.Keepers.{receiving, records_after}
use Rattle.keeper.specs.Refusals.{keeper_reason}
use Rattle.fields.specs.Forms.{Item, letter as letter_item}
use Rattle.texts.specs.Meters.{meter_items}
use Rattle.lines.specs.Letters.{letter, kind_of}
use Rattle.lines.specs.Messages.{message_items}

-- what comes of a command or a message
pub data Outcome : Type 0 where
  -- the command is carried, with this answer
  carried : ℕ → Outcome
  -- it was carried already, and had this answer
  already : ℕ → Outcome
  -- it is denied, with this number
  denied : ℕ → Outcome
  -- the reply has these fields, its letter first
  replied : List Item → Outcome
  -- the message is refused, with this number
  refused : ℕ → Outcome

pub data Case : Type 0 where
  -- a pool, a command
  of_pool : Pool → PoolCommand → Outcome → Case
  -- requests that were made of a new pool under the layer, and one more
  of_layer : List (Request PoolCommand) → Request PoolCommand → Outcome → Case
  -- messages that keeper 0 of a group with four meters received, and one more, with its fields
  of_keeper : List (Message Meter) → Message Meter → List Item → Outcome → Case

abbrev outcome_of : {V : Type 0} → Result (Applied V) Denial → Outcome
outcome_of (Ok (Carried v a)) = carried a
outcome_of (Ok (Already a)) = already a
outcome_of (Err d) = denied (denial_number d)

abbrev value_after : {V : Type 0} → V → Result (Applied V) Denial → V
value_after v (Ok (Carried w a)) = w
value_after v (Ok (Already a)) = v
value_after v (Err d) = v

-- the value after some commands, the first of them first
abbrev pub after : {V C : Type 0} → (V → C → Result (Applied V) Denial) → V → List C → V
after applies v [] = v
after applies v (c ∷ cs) = after applies (value_after v (applies v c)) cs

-- the fields of a message's line, its letter first
abbrev fields_of : Message Meter → List Item
fields_of m = letter_item (letter (kind_of m.body)) ∷ message_items meter_items m

abbrev keeper_0 : KeeperId
keeper_0 = record { id = 0; within = omega arith }

abbrev four_meters : List (Record Meter)
four_meters = replicate 4 (new_record zero_meter)

-- the records after some messages, the first of them first
abbrev received : List (Record Meter) → List (Message Meter) → List (Record Meter)
received records [] = records
received records (m ∷ ms) = received (records_after true records m.head.register (receiving keeper_0 records m)) ms

abbrev reply_to : Result (Step Meter) KeeperRefusal → Outcome
reply_to (Ok (Answered m)) = replied (fields_of m)
reply_to (Ok (Stored new m)) = replied (fields_of m)
reply_to (Err e) = refused (number_of (keeper_reason e))

-- the rules give the outcome of a case
abbrev pub Gives : Case → Type 0
Gives (of_pool pool c o) = outcome_of (pool_applies pool c) ≡ o
Gives (of_layer before r o) = outcome_of (once_applies pool_applies (after (once_applies pool_applies) (new_layer new_pool) before) r) ≡ o
Gives (of_keeper before m asked o) = (fields_of m ≡ asked) × (reply_to (receiving keeper_0 (received four_meters before) m) ≡ o)
