-- The numbers that a fitter reads.
use Rattle.std.specs.Prelude.{ℕ, Ok, Err, Result}
use Rattle.protocol.specs.declared.refusal.Reason.{Reason}
use Rattle.protocol.specs.declared.refusal.Reason.TheVariants as reason
use Rattle.protocol.specs.declared.refusal.OutOfRange.{OutOfRange}
use Rattle.protocol.specs.declared.refusal.StoreRefusal.{StoreRefusal}
use Rattle.protocol.specs.declared.refusal.StoreRefusal.TheVariants as store
use Rattle.protocol.specs.declared.kind.Denial.{Denial}
use Rattle.protocol.specs.declared.kind.Denial.TheVariants as denial

-- the number of a reason for a refusal
abbrev pub number_of : Reason → ℕ
number_of reason.UnknownRegister = 1
number_of reason.WrongMessage = 2
number_of reason.Stale = 3
number_of reason.CounterAtTop = 4
number_of reason.StoreShut = 5
number_of reason.LineFrame = 10
number_of reason.UnknownLetter = 11
number_of reason.FieldCount = 12
number_of reason.FieldForm = 13
number_of reason.FieldRange = 14
number_of reason.NoRoom = 15
number_of reason.OutOfRange = 16

-- why a store refuses
abbrev pub store_reason : StoreRefusal → Reason
store_reason store.UnknownRegister = reason.UnknownRegister
store_reason store.Shut = reason.StoreShut
store_reason store.ShortScratch = reason.NoRoom

-- the number of a denial: these count by themselves
abbrev pub denial_number : Denial → ℕ
denial_number denial.CommandOutOfRange = 1
denial_number denial.NoPermitFree = 2
denial_number denial.NotTheHolder = 3
denial_number denial.TotalPassesTop = 4
denial_number denial.NumberBelowLast = 6

-- a command that names what there is not is out of range
abbrev pub if_there : {X A : Type 0} → Result X OutOfRange → (X → Result A Denial) → Result A Denial
if_there (Ok x) applied = applied x
if_there (Err e) applied = Err denial.CommandOutOfRange
