-- The journal store.
use Rattle.std.specs.Prelude.{◌≡◌, ℕ, ◌+◌, ◌≤◌, Bool, true, false, cond, ◌||◌, List, [], ◌∷◌, ◌++◌, map, replicate, length, is_ok, Ok, Err, vec_items, vec_len, Result, ◌==◌, nat_lt}
use Rattle.std.specs.List.{range_with_len}
use Rattle.protocol.specs.Records.{new_record}
use Rattle.protocol.specs.declared.record.Record.{Record}
use Rattle.protocol.specs.declared.refusal.StoreRefusal.{StoreRefusal}
use Rattle.protocol.specs.declared.store.Entry.{Entry}
use Rattle.stores.specs.Making.{RegisterCount}
use Rattle.stores.specs.declared.making.NoStore.{NoStore}
use Rattle.stores.specs.declared.making.NoStore.TheVariants.{OutOfRange, NoMemory}
use Rattle.journal.specs.declared.journal.JournalStore.{JournalStore}

-- the record of a register after some entries, the oldest first: its latest entry counts, and `fresh` where it has none
abbrev pub latest : {V : Type 0} → Record V → List (Entry V) → ℕ → Record V
latest fresh [] register = fresh
latest fresh (e ∷ es) register = latest (cond (e.register == register) e.«record» fresh) es register

-- the records of so many registers after some entries
abbrev pub records_after : {V : Type 0} → ℕ → Record V → List (Entry V) → List (Record V)
records_after registers fresh entries = map (latest fresh entries) (range_with_len 0 registers)

-- some entry is of the register
abbrev pub puts_of : {V : Type 0} → List (Entry V) → ℕ → Bool
puts_of [] register = false
puts_of (e ∷ es) register = e.register == register || puts_of es register

-- the latest entry of each register, in the order of putting: an entry goes where a later one is of its register
abbrev pub kept : {V : Type 0} → List (Entry V) → List (Entry V)
kept [] = []
kept (e ∷ es) = cond (puts_of es e.register) (kept es) (e ∷ kept es)

-- a journal has of each register the record that was put last
abbrev pub journal_records : {V : Type 0} → JournalStore V → List (Record V)
journal_records s = records_after s.registers s.fresh (vec_items s.entries)

-- and is shut where no place is left
abbrev pub journal_open : {V : Type 0} → JournalStore V → Bool
journal_open s = nat_lt (vec_len s.entries) s.places

-- what a journal was made with stays
pub record SameMaking {V : Type 0} (before after : JournalStore V) : Type 0 where
  pub same_registers : after.registers ≡ before.registers
  pub same_places : after.places ≡ before.places
  pub same_fresh : after.fresh ≡ before.fresh

-- a put goes into the next place
pub record JournalPuts {V : Type 0} (before : JournalStore V) (register : ℕ) (new : Record V) (after : JournalStore V) : Type 0 where
  pub one_entry_more : vec_items after.entries ≡ vec_items before.entries ++ record { register = register; «record» = new } ∷ []
  pub making_stays : SameMaking before after

-- its cleaning needs a scratch of an entry for each register
abbrev pub journal_needed : {V : Type 0} → JournalStore V → ℕ
journal_needed s = s.registers

-- and keeps the latest entry of each register
pub record JournalCleans {V : Type 0} (before after : JournalStore V) : Type 0 where
  pub latest_entries_stay : vec_items after.entries ≡ kept (vec_items before.entries)
  pub making_stays : SameMaking before after

-- what a scratch holds after a cleaning is left open: it is as long as it was, and nothing more is said of
-- it; only a refused cleaning leaves it as it was
pub record FreeScratch {E : Type 0} (before after : List E) (r : Result (Unit {0}) StoreRefusal) : Type 0 where
  pub same_length : length after ≡ length before
  pub a_refusal_changes_nothing : is_ok r ≡ false → after ≡ before

-- the numbers of places that a journal for so many registers may have
abbrev pub PlaceCount : ℕ → ℕ → Type 0
PlaceCount registers places = (registers + 1 ≤ places) × (places ≤ 65536)

-- the numbers that a journal may be made with
abbrev pub JournalRange : ℕ → ℕ → Type 0
JournalRange registers places = RegisterCount registers × PlaceCount registers places

-- a new journal is as it was asked for, with no entry: it is open, and all its records are new
pub record NewJournal {V : Type 0} (first : V) (registers places : ℕ) (s : JournalStore V) : Type 0 where
  pub range : JournalRange registers places
  pub registers_asked : s.registers ≡ registers
  pub places_asked : s.places ≡ places
  pub fresh_is_new : s.fresh ≡ new_record first
  pub no_entry : vec_items s.entries ≡ []
  pub every_record_new : journal_records s ≡ replicate registers (new_record first)
  pub is_open : journal_open s ≡ true

-- a journal is made of numbers that are in range, and refused of any others
abbrev pub MakesJournal : {V : Type 0} → V → ℕ → ℕ → Result (JournalStore V) NoStore → Type 0
MakesJournal first registers places (Ok s) = NewJournal first registers places s
MakesJournal first registers places (Err OutOfRange) = JournalRange registers places → ⊥
MakesJournal first registers places (Err NoMemory) = JournalRange registers places
