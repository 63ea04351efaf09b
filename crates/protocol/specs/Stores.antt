-- What a store answers, over its records (one for each register) and whether it is open.
use Rattle.std.specs.Prelude.{◌≡◌, ℕ, Bool, true, false, cond, List, is_ok, Some, None, Ok, Err, Option, Result, nat_le, slice_set}
use Rattle.std.specs.List.{slice_get}
use Rattle.std.specs.Option.{ok_or}
use Rattle.protocol.specs.declared.record.Record.{Record}
use Rattle.protocol.specs.declared.refusal.StoreRefusal.{StoreRefusal}
use Rattle.protocol.specs.declared.refusal.StoreRefusal.TheVariants.{UnknownRegister, Shut, ShortScratch}

-- a get gives the register's record
abbrev pub got : {V : Type 0} → List (Record V) → ℕ → Result (Record V) StoreRefusal
got records register = ok_or (slice_get records register) UnknownRegister

abbrev put_in : {V : Type 0} → Option (Record V) → Bool → Result (Unit {0}) StoreRefusal
put_in None open? = Err UnknownRegister
put_in (Some r) open? = cond open? (Ok tt) (Err Shut)

-- a put is refused for an unknown register first, then where the store is shut
abbrev pub put_answer : {V : Type 0} → List (Record V) → Bool → ℕ → Result (Unit {0}) StoreRefusal
put_answer records open? register = put_in (slice_get records register) open?

-- a put that is taken replaces that record and no other
abbrev pub records_after_put : {V : Type 0} → Bool → List (Record V) → ℕ → Record V → List (Record V)
records_after_put taken? records register new = cond taken? (slice_set records register new) records

-- a cleaning is refused just where the scratch is shorter than it needs
abbrev pub clean_answer : ℕ → ℕ → Result (Unit {0}) StoreRefusal
clean_answer needed scratch = cond (nat_le needed scratch) (Ok tt) (Err ShortScratch)

-- what comes of a cleaning with a scratch of this length, for a store that means these records, is
-- open or shut, needs so long a scratch and cleans itself in this way
pub record Cleaned {S V : Type 0} (records : S → List (Record V)) (opened : S → Bool) (needed : S → ℕ) (cleans : S → S → Type 0) (scratch : ℕ) (before after : S) (r : Result (Unit {0}) StoreRefusal) : Type 0 where
  pub answers : r ≡ clean_answer (needed before) scratch
  pub cleans_in_its_way : is_ok r ≡ true → cleans before after
  pub every_record_stays : records after ≡ records before
  pub an_open_store_stays_open : opened before ≡ true → opened after ≡ true
  pub a_refusal_changes_nothing : is_ok r ≡ false → after ≡ before
