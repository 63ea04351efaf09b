-- The table store.
use Rattle.std.specs.Prelude.{◌≡◌, ℕ, Bool, true, List, replicate, Ok, Err, vec_items, Result}
use Rattle.protocol.specs.Records.{new_record}
use Rattle.protocol.specs.declared.record.Record.{Record}
use Rattle.stores.specs.declared.making.NoStore.{NoStore}
use Rattle.stores.specs.declared.making.NoStore.TheVariants.{OutOfRange, NoMemory}
use Rattle.stores.specs.declared.table.TableStore.{TableStore}
use Rattle.stores.specs.Making.{RegisterCount}

-- a table has a record in each place
abbrev pub table_records : {V : Type 0} → TableStore V → List (Record V)
table_records s = vec_items s.table

-- and is never shut
abbrev pub table_open : {V : Type 0} → TableStore V → Bool
table_open s = true

-- its cleaning needs no scratch
abbrev pub table_needed : {V : Type 0} → TableStore V → ℕ
table_needed s = 0

-- and does nothing
abbrev pub TableCleans : {V : Type 0} → TableStore V → TableStore V → Type 0
TableCleans before after = after ≡ before

-- a table is made of new records
abbrev pub MakesTable : {V : Type 0} → V → ℕ → Result (TableStore V) NoStore → Type 0
MakesTable first registers (Ok s) = RegisterCount registers × (table_records s ≡ replicate registers (new_record first))
MakesTable first registers (Err OutOfRange) = RegisterCount registers → ⊥
MakesTable first registers (Err NoMemory) = RegisterCount registers
