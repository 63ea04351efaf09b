-- The meter's rules.
use Rattle.std.specs.Prelude.{◌≡◌, ℕ, ◌+◌, ◌≤◌, cond, ◌&&◌, Ok, Err, Result, nat_le}
use Rattle.std.proofs.Math.Decide.{dec_le}
use Rattle.std.proofs.Common.{arith}
use Rattle.protocol.specs.declared.kind.Applied.{Applied}
use Rattle.protocol.specs.declared.kind.Applied.TheVariants.{Carried}
use Rattle.protocol.specs.declared.kind.Denial.{Denial}
use Rattle.protocol.specs.declared.kind.Denial.TheVariants.{CommandOutOfRange, TotalPassesTop}
use Rattle.protocol.specs.declared.refusal.OutOfRange.{OutOfRange}
use Rattle.protocol.specs.Rounds.{MadeWithin}
use Rattle.kinds.specs.declared.meter.Meter.{Meter}

abbrev pub MakesMeter : ℕ → Result Meter OutOfRange → Type 0
MakesMeter total = MadeWithin (total ≤ 4000000000) (λ m. m.total ≡ total)

-- a meter starts from 0
abbrev pub zero_meter : Meter
zero_meter = record { total = 0; within = omega arith }

-- a total is carried, and is its own answer, unless it is too great
abbrev pub reaches : (total : ℕ) → Dec (total ≤ 4000000000) → Result (Applied Meter) Denial
reaches total (yes h) = Ok (Carried (record { total = total; within = h }) total)
reaches total (no h) = Err TotalPassesTop

-- a command adds 1 to 1,000,000
abbrev pub add_to : Meter → ℕ → Result (Applied Meter) Denial
add_to m amount =
    cond (nat_le 1 amount && nat_le amount 1000000)
    (reaches (m.total + amount) (dec_le (m.total + amount) 4000000000))
    (Err CommandOutOfRange)
