-- Two values of a type with ranges are the same where their numbers are: a range has one proof.
use Rattle.std.proofs.Common.{◌≡◌, ℕ, ◌+◌, ◌^◌, ◌≤◌, true, Some, None, refl, ap, arith}
use mathlib.Core.Path.{PathP}
use mathlib.Core.HLevel.{is_prop→PathP, Π_prop}
use native.Mathlib.Bridge.{le_prop}
use native.Mathlib.Decide.{dec_le}
use Rattle.protocol.specs.declared.message.Head.{Head}
use Rattle.protocol.specs.declared.message.KeeperId.{KeeperId}
use Rattle.protocol.specs.declared.message.Number.{Number}
use Rattle.protocol.specs.declared.message.Promise.{Promise}
use Rattle.protocol.specs.declared.round.Round.{Round}
use Rattle.protocol.specs.Rounds.{number_after, next_within}

-- a bound has one proof, also where the number changes along a path
pub from_path : {m n : ℕ} (p : m ≡ n) (low : ℕ) (h : low ≤ m) (k : low ≤ n) → PathP (λ i. low ≤ p i) h k
from_path p low = is_prop→PathP (λ j. low ≤ p j) (λ j. le_prop)

pub within_path : {m n : ℕ} (p : m ≡ n) (top : ℕ) (h : m ≤ top) (k : n ≤ top) → PathP (λ i. p i ≤ top) h k
within_path p top = is_prop→PathP (λ j. p j ≤ top) (λ j. le_prop)

pub same_round : (r s : Round) → r.n ≡ s.n → r.hub ≡ s.hub → r.attempt ≡ s.attempt → r ≡ s
same_round r s p q t = λ i. record {
  n = p i;
  hub = q i;
  attempt = t i;
  n_within = within_path p (2 ^ 40) r.n_within s.n_within i;
  hub_within = within_path q 15 r.hub_within s.hub_within i;
  attempt_within = within_path t (2 ^ 40) r.attempt_within s.attempt_within i;
}

pub same_number : (m k : Number) → m.n ≡ k.n → m ≡ k
same_number m k p = λ i. record {
  n = p i;
  from = from_path p 1 m.from k.from i;
  within = within_path p (2 ^ 40) m.within k.within i;
}

pub same_keeper : (a b : KeeperId) → a.id ≡ b.id → a ≡ b
same_keeper a b p = λ i. record { id = p i; within = within_path p 6 a.within b.within i }

pub same_promise : (a b : Promise) → a.raised ≡ b.raised → a.n ≡ b.n → a ≡ b
same_promise a b p q = λ i. record {
  raised = p i;
  n = q i;
  within = within_path q (2 ^ 40) a.within b.within i;
  from_one_where_raised = is_prop→PathP (λ j. p j ≡ true → 1 ≤ q j) (λ j. Π_prop (λ e. le_prop)) a.from_one_where_raised b.from_one_where_raised i;
}

pub same_head : (a b : Head) → a.register ≡ b.register → a.hub ≡ b.hub → a.attempt ≡ b.attempt → a ≡ b
same_head a b p q t = λ i. record {
  register = p i;
  hub = q i;
  attempt = t i;
  register_within = within_path p 63 a.register_within b.register_within i;
  hub_from = from_path q 1 a.hub_from b.hub_from i;
  hub_within = within_path q 15 a.hub_within b.hub_within i;
  attempt_from = from_path t 1 a.attempt_from b.attempt_from i;
  attempt_within = within_path t (2 ^ 40) a.attempt_within b.attempt_within i;
}

next_some : (m : Number) (n : ℕ) → m.n ≡ n + 1 → (d : Dec (n + 1 ≤ 2 ^ 40)) → Some m ≡ next_within n d
next_some m n e (yes h) = ap Some (same_number m _ e)
next_some m n e (no h) = absurd (h (omega (arith, m.within)))

next_none : (n : ℕ) → 2 ^ 40 ≤ n → (d : Dec (n + 1 ≤ 2 ^ 40)) → None ≡ next_within n d
next_none n l (yes h) = absurd (omega arith)
next_none n l (no h) = refl

pub after_some : (m : Number) (r : Round) → m.n ≡ r.n + 1 → Some m ≡ number_after r
unfolding number_after
after_some m r e = next_some m r.n e (dec_le (r.n + 1) (2 ^ 40))

pub after_none : (r : Round) → 2 ^ 40 ≤ r.n → None ≡ number_after r
unfolding number_after
after_none r l = next_none r.n l (dec_le (r.n + 1) (2 ^ 40))
