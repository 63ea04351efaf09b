-- Two permits, flats or pools are the same where their numbers are: a range has one proof.
use Rattle.std.proofs.Common.{◌≡◌, ℕ, ◌+◌, ◌<◌, ◌≤◌, length, Ok, Some, None, Option, Result, sym, refl, ap, arith}
use Rattle.std.specs.Result.{result_ok}
use mathlib.Core.HLevel.{is_prop→PathP}
use native.Mathlib.Decide.{dec_le}
use native.Mathlib.Nat.{ℕ_set}
use Rattle.protocol.specs.declared.kind.Applied.{Applied}
use Rattle.protocol.specs.declared.kind.Applied.TheVariants.{Carried}
use Rattle.protocol.specs.declared.kind.Denial.{Denial}
use Rattle.protocol.specs.Ranges.{within?}
use Rattle.protocol.proofs.Made.{is_made, not_made}
use Rattle.protocol.proofs.Same.{from_path, within_path}
use Rattle.kinds.specs.declared.pool.Flat.{Flat}
use Rattle.kinds.specs.declared.pool.Holder.{Holder}
use Rattle.kinds.specs.declared.pool.Permit.{Permit}
use Rattle.kinds.specs.declared.pool.Pool.{Pool}
use Rattle.kinds.specs.Pools.{flat_numbered, flat_of, holder_for, next_in, number_or_zero, permit_after}

pub same_permit : (p q : Permit) → p.number ≡ q.number → p ≡ q
same_permit p q e = λ i. record {
  number = e i;
  from = from_path e 1 p.from q.from i;
  within = within_path e 32 p.within q.within i;
}

pub same_flat : (a b : Flat) → a.number ≡ b.number → a ≡ b
same_flat a b e = λ i. record {
  number = e i;
  from = from_path e 1 a.from b.from i;
  within = within_path e 200 a.within b.within i;
}

pub same_holder : (a b : Holder) → a.number ≡ b.number → a ≡ b
same_holder a b e = λ i. record { number = e i; within = within_path e 200 a.within b.within i }

-- the holder for a flat, or for nobody, says just that
pub says_it : (o : Option Flat) → flat_of (holder_for o) ≡ o
unfolding flat_numbered
says_it (Some f) = ap result_ok (sym (is_made _ f (f.from, f.within) (λ h. same_flat _ _ refl) (within? 1 200 f.number)))
says_it None = ap result_ok (sym (not_made _ (λ w. omega (arith, w.0)) (within? 1 200 0)))

pub same_pool : (a b : Pool) → a.holders ≡ b.holders → a.last ≡ b.last → a ≡ b
same_pool a b p q = λ i. record {
  holders = p i;
  last = q i;
  whole = is_prop→PathP (λ j. length (p j) ≡ 32) (λ j. ℕ_set (length (p j)) 32) a.whole b.whole i;
}

next_is : (q : Permit) (n : ℕ) → (n < 32 → q.number ≡ n + 1) → (32 ≤ n → q.number ≡ 1) → (d : Dec (n + 1 ≤ 32)) → q ≡ next_in n d
next_is q n low top (yes h) = same_permit q _ (low (omega arith))
next_is q n low top (no h) = same_permit q _ (top (omega arith))

pub is_next : (q : Permit) (last : Option Permit) → (number_or_zero last < 32 → q.number ≡ number_or_zero last + 1) → (32 ≤ number_or_zero last → q.number ≡ 1) → q ≡ permit_after last
unfolding permit_after
is_next q last low top = next_is q (number_or_zero last) low top (dec_le (number_or_zero last + 1) 32)

-- what is carried is the same where the pool and the answer are
pub same_carried : (a b : Pool) (m n : ℕ) → a ≡ b → m ≡ n → ◌≡◌ {A = Result (Applied Pool) Denial} (Ok (Carried a m)) (Ok (Carried b n))
same_carried a b m n e p = cc
