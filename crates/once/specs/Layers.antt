-- The rules of the once-only layer, over the rules of the kind below.
use Rattle.std.specs.Prelude.{ℕ, ◌-◌, ◌^◌, replicate, Ok, Err, Result, slice_index_or, slice_set, refl}
use Rattle.std.specs.declared.cmp.Ordering.{Ordering}
use Rattle.std.specs.declared.cmp.Ordering.TheVariants.{Less, Equal, Greater}
use Rattle.std.specs.Ordering.{nat_cmp}
use Rattle.std.proofs.Common.{length-set, ◌∙◌, arith}
use Rattle.protocol.specs.declared.kind.Applied.{Applied}
use Rattle.protocol.specs.declared.kind.Applied.TheVariants.{Carried, Already}
use Rattle.protocol.specs.declared.kind.Denial.{Denial}
use Rattle.protocol.specs.declared.kind.Denial.TheVariants.{NumberBelowLast}
use Rattle.protocol.specs.declared.refusal.OutOfRange.{OutOfRange}
use Rattle.protocol.specs.Ranges.{Within, both, within?, made}
use Rattle.protocol.specs.Refusals.{if_there}
use Rattle.once.specs.declared.layer.Once.{Once}
use Rattle.once.specs.declared.layer.Request.{Request}
use Rattle.once.specs.declared.layer.Session.{Session}
use Rattle.once.specs.declared.layer.Sessions.{Sessions}
use Rattle.once.specs.declared.layer.Writer.{Writer}

-- a hub that wrote nothing yet
abbrev pub no_session : Session
no_session = record { number = 0; answer = 0; number_within = omega arith }

-- in the beginning no hub wrote anything
unfoldable pub new_sessions : Sessions
new_sessions = record { table = replicate 15 no_session; whole = refl }

abbrev pub new_layer : {K : Type 0} → K → Once K
new_layer first = record { sessions = new_sessions; below = first }

abbrev pub writer_from : (hub number : ℕ) → Within 1 15 hub × Within 1 (2 ^ 40) number → Writer
writer_from hub number r = record { hub = hub; number = number; hub_from = r.0.0; hub_within = r.0.1; number_from = r.1.0; number_within = r.1.1 }

-- hubs are 1 to 15, the numbers of their writes 1 to 2 ^ 40
unfoldable pub writer_of : ℕ → ℕ → Result Writer OutOfRange
writer_of hub number = made (writer_from hub number) (both (within? 1 15 hub) (within? 1 (2 ^ 40) number))

-- a hub's entry
abbrev pub session_of : Sessions → ℕ → Session
session_of s hub = slice_index_or s.table (hub - 1) no_session

-- the writer's entry replaced, and no other
abbrev pub noted : Sessions → Writer → ℕ → Sessions
noted s w answer = record {
  table = slice_set s.table (w.hub - 1) (record { number = w.number; answer = answer; number_within = w.number_within });
  whole = length-set s.table (w.hub - 1) (record { number = w.number; answer = answer; number_within = w.number_within }) ∙ s.whole;
}

-- a write that is carried: the value below after it, and the writer's new entry
abbrev pub carried_by : {K : Type 0} → Once K → Writer → K → ℕ → Result (Applied (Once K)) Denial
carried_by v w below answer = Ok (Carried (record { sessions = noted v.sessions w answer; below = below }) answer)

-- what comes of what came below: unless that was denied, the write is carried, with the answer from below
abbrev pub noting : {K : Type 0} → Once K → Writer → Result (Applied K) Denial → Result (Applied (Once K)) Denial
noting v w (Ok (Carried below answer)) = carried_by v w below answer
noting v w (Ok (Already answer)) = carried_by v w v.below answer
noting v w (Err denial) = Err denial

-- a number below the hub's last is denied, the last one was carried already, a greater one is applied below
abbrev pub by_number : {K : Type 0} → Once K → Writer → Result (Applied K) Denial → Ordering → Result (Applied (Once K)) Denial
by_number v w came Less = Err NumberBelowLast
by_number v w came Equal = Ok (Already (session_of v.sessions w.hub).answer)
by_number v w came Greater = noting v w came

abbrev pub writing : {K C : Type 0} → (K → C → Result (Applied K) Denial) → Once K → C → Result Writer OutOfRange → Result (Applied (Once K)) Denial
writing applies v command writer = if_there writer (λ w. by_number v w (applies v.below command) (nat_cmp w.number (session_of v.sessions w.hub).number))

-- all the rules: a request out of range is denied first
abbrev pub once_applies : {K C : Type 0} → (K → C → Result (Applied K) Denial) → Once K → Request C → Result (Applied (Once K)) Denial
once_applies applies v r = writing applies v r.command (writer_of r.hub r.number)
