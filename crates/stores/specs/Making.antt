-- Making a store.
use Rattle.std.specs.Prelude.{ℕ, ◌≤◌, List, Some, None, Option, codes}
use Rattle.protocol.specs.declared.refusal.Reason.{Reason}
use Rattle.protocol.specs.declared.refusal.Reason.TheVariants as reason
use Rattle.stores.specs.declared.making.NoStore.{NoStore}
use Rattle.stores.specs.declared.making.NoStore.TheVariants.{OutOfRange, NoMemory}

-- want of memory has no number
abbrev pub no_store_reason : NoStore → Option Reason
no_store_reason OutOfRange = Some reason.OutOfRange
no_store_reason NoMemory = None

-- what a program tells its user
abbrev pub no_store_text : NoStore → List ℕ
no_store_text OutOfRange = codes "a number or a length out of range"
no_store_text NoMemory = codes "no memory for the records"

-- the numbers of registers that a group may serve
abbrev pub RegisterCount : ℕ → Type 0
RegisterCount registers = (1 ≤ registers) × (registers ≤ 64)
