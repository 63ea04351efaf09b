-- The rules of a keeper: what it does with a message, over the record of the message's register.
use Rattle.std.specs.Prelude.{Bool, true, false, cond, ◌&&◌, ◌||◌, Some, None, Ok, Err, Option, Result, ◌==◌, nat_lt}
use Rattle.protocol.specs.declared.message.Access.TheVariants.{Read, Write}
use Rattle.protocol.specs.declared.message.Body.{Body}
use Rattle.protocol.specs.declared.message.Body.TheVariants.{Prepare, PrepareAt, Vote, State, Voted}
use Rattle.protocol.specs.declared.message.Head.{Head}
use Rattle.protocol.specs.declared.message.KeeperId.{KeeperId}
use Rattle.protocol.specs.declared.message.Message.{Message}
use Rattle.protocol.specs.declared.message.Number.{Number}
use Rattle.protocol.specs.declared.message.Promise.{Promise}
use Rattle.protocol.specs.declared.record.Record.{Record}
use Rattle.protocol.specs.declared.round.Round.{Round}
use Rattle.protocol.specs.Rounds.{round_at, number_after, promise_kept, promise_raised}
use Rattle.keeper.specs.declared.refusal.KeeperRefusal.{KeeperRefusal}
use Rattle.keeper.specs.declared.refusal.KeeperRefusal.TheVariants.{WrongMessage, CounterAtTop, Stale}
use Rattle.keeper.specs.declared.step.Step.{Step}
use Rattle.keeper.specs.declared.step.Step.TheVariants.{Answered, Stored}

-- P, F and V ask a keeper for something; A and D are replies
abbrev pub asks : {V : Type 0} → Body V → Bool
asks (Prepare access) = true
asks (PrepareAt at) = true
asks (Vote at v) = true
asks (State s) = false
asks (Voted k at) = false

-- the reply A tells a promise, and the vote that the record has
abbrev pub told : {V : Type 0} → KeeperId → Record V → Head → Promise → Message V
told keeper r head promise =
    record { head = head; body = State (record { keeper = keeper; promise = promise; voted = r.voted; value = r.value }) }

-- P for a read: the keeper tells its record, and keeps it as it is
abbrev pub reading : {V : Type 0} → KeeperId → Record V → Head → Step V
reading keeper r head = Answered (told keeper r head (promise_kept r.promised))

-- the keeper promises the round with the number `at`, and tells its vote, which stays
abbrev pub promising : {V : Type 0} → KeeperId → Record V → Head → Number → Step V
promising keeper r head at =
    Stored (record { promised = round_at head at; voted = r.voted; value = r.value }) (told keeper r head (promise_raised at))

abbrev pub promising_next : {V : Type 0} → KeeperId → Record V → Head → Option Number → Result (Step V) KeeperRefusal
promising_next keeper r head (Some at) = Ok (promising keeper r head at)
promising_next keeper r head None = Err CounterAtTop

-- P for a write: the keeper promises the number after the promised one; at the top it refuses
abbrev pub raising : {V : Type 0} → KeeperId → Record V → Head → Result (Step V) KeeperRefusal
raising keeper r head = promising_next keeper r head (number_after r.promised)

-- F: the keeper promises the number that the hub asks for, if it is above the promised one
abbrev pub preparing : {V : Type 0} → KeeperId → Record V → Head → Number → Result (Step V) KeeperRefusal
preparing keeper r head at = cond (nat_lt r.promised.n at.n) (Ok (promising keeper r head at)) (Err Stale)

-- a vote is taken above the promised number, and in the promised round itself
abbrev pub takes_vote : Round → Round → Bool
takes_vote promised asked =
    nat_lt promised.n asked.n || (promised.n == asked.n && (promised.hub == asked.hub && promised.attempt == asked.attempt))

-- V: the keeper votes for the value; the round of the vote is then the promised one, too
abbrev pub voting : {V : Type 0} → KeeperId → Record V → Head → Number → V → Result (Step V) KeeperRefusal
voting keeper r head at v =
    cond (takes_vote r.promised (round_at head at))
    (Ok (Stored (record { promised = round_at head at; voted = round_at head at; value = v }) (record { head = head; body = Voted keeper at })))
    (Err Stale)

abbrev step_on : {V : Type 0} → KeeperId → Record V → Head → Body V → Result (Step V) KeeperRefusal
step_on keeper r head (Prepare Read) = Ok (reading keeper r head)
step_on keeper r head (Prepare Write) = raising keeper r head
step_on keeper r head (PrepareAt at) = preparing keeper r head at
step_on keeper r head (Vote at v) = voting keeper r head at v
step_on keeper r head (State s) = Err WrongMessage
step_on keeper r head (Voted k at) = Err WrongMessage

-- all the rules
abbrev pub keeper_step : {V : Type 0} → KeeperId → Record V → Message V → Result (Step V) KeeperRefusal
keeper_step keeper r m = step_on keeper r m.head m.body
