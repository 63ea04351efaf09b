-- Rounds and the parts of messages, made from plain numbers where these are in range.
use Rattle.std.specs.Prelude.{◌≡◌, ℕ, ◌+◌, ◌^◌, ◌<◌, ◌≤◌, true, false, Some, None, Ok, Err, Option, Result}
use Rattle.std.proofs.Math.Decide.{dec_le}
use Rattle.std.proofs.Common.{arith}
use Rattle.std.proofs.lemmas.Bool.{false≢true}
use Rattle.protocol.specs.declared.group.GroupSize.{GroupSize}
use Rattle.protocol.specs.declared.message.Head.{Head}
use Rattle.protocol.specs.declared.message.KeeperId.{KeeperId}
use Rattle.protocol.specs.declared.message.Number.{Number}
use Rattle.protocol.specs.declared.message.Promise.{Promise}
use Rattle.protocol.specs.declared.refusal.OutOfRange.{OutOfRange}
use Rattle.protocol.specs.declared.round.Round.{Round}
use Rattle.protocol.specs.Groups.{keepers_in}

-- a thing is made of numbers that are within its range, and refused of any others
abbrev pub MadeWithin : {X : Type 0} → Type 0 → (X → Type 0) → Result X OutOfRange → Type 0
MadeWithin within is (Ok x) = within × is x
MadeWithin within is (Err e) = within → ⊥

-- the numbers that a round may have
abbrev pub RoundRange : ℕ → ℕ → ℕ → Type 0
RoundRange n hub attempt = (n ≤ 2 ^ 40) × (hub ≤ 15) × (attempt ≤ 2 ^ 40)

abbrev pub MakesRound : ℕ → ℕ → ℕ → Result Round OutOfRange → Type 0
MakesRound n hub attempt = MadeWithin (RoundRange n hub attempt) (λ r. (r.n ≡ n) × (r.hub ≡ hub) × (r.attempt ≡ attempt))

-- the numbers that a head may have
abbrev pub HeadRange : ℕ → ℕ → ℕ → Type 0
HeadRange register hub attempt = (register ≤ 63) × (1 ≤ hub) × (hub ≤ 15) × (1 ≤ attempt) × (attempt ≤ 2 ^ 40)

abbrev pub MakesHead : ℕ → ℕ → ℕ → Result Head OutOfRange → Type 0
MakesHead register hub attempt = MadeWithin (HeadRange register hub attempt) (λ h. (h.register ≡ register) × (h.hub ≡ hub) × (h.attempt ≡ attempt))

abbrev pub MakesNumber : ℕ → Result Number OutOfRange → Type 0
MakesNumber n = MadeWithin ((1 ≤ n) × (n ≤ 2 ^ 40)) (λ m. m.n ≡ n)

-- a keeper of a group has a number below the group's size
abbrev pub MakesKeeper : ℕ → GroupSize → Result KeeperId OutOfRange → Type 0
MakesKeeper id group = MadeWithin (id < keepers_in group) (λ k. k.id ≡ id)

-- the first round
abbrev pub first_round : Round
first_round = record {
  n = 0;
  hub = 0;
  attempt = 0;
  n_within = omega arith;
  hub_within = omega arith;
  attempt_within = omega arith;
}

-- the round with the number `at` of the attempt that a head names
abbrev pub round_at : Head → Number → Round
round_at h at = record {
  n = at.n;
  hub = h.hub;
  attempt = h.attempt;
  n_within = at.within;
  hub_within = h.hub_within;
  attempt_within = h.attempt_within;
}

abbrev pub next_within : (n : ℕ) → Dec (n + 1 ≤ 2 ^ 40) → Option Number
next_within n (yes h) = Some (record { n = n + 1; from = omega arith; within = h })
next_within n (no h) = None

-- the number after that of a round; none after the top
unfoldable pub number_after : Round → Option Number
number_after r = next_within r.n (dec_le (r.n + 1) (2 ^ 40))

-- what is told of a promise that the message left as it was
abbrev pub promise_kept : Round → Promise
promise_kept r = record { raised = false; n = r.n; within = r.n_within; from_one_where_raised = λ e. absurd (false≢true e) }

-- what is told of a promise that the message raised
abbrev pub promise_raised : Number → Promise
promise_raised at = record { raised = true; n = at.n; within = at.within; from_one_where_raised = λ e. at.from }
