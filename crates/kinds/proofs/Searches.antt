-- The search for a free permit.
use Rattle.std.proofs.Common.{◌≡◌, ℕ, zero, suc, ◌+◌, ◌-◌, ◌%◌, ◌<◌, ◌≤◌, ◌≢◌, Some, None, Option, cond, is_none, sym, refl, ap, ◌∙◌, below_more, arith}
use native.Mathlib.Decide.{dec_le}
use Rattle.kinds.specs.declared.pool.Flat.{Flat}
use Rattle.kinds.specs.declared.pool.Permit.{Permit}
use Rattle.kinds.specs.declared.pool.Pool.{Pool}
use Rattle.kinds.specs.Pools.{next_in, number_or_zero, permit_after, free?, search_after, permit_at, holding, NearestFree}

pub search_step : (pool : Pool) (after : Option Permit) (left : ℕ) → 0 < left → search_after pool after left ≡ cond (free? pool (permit_after after)) (Some (permit_after after)) (search_after pool (Some (permit_after after)) (left - 1))
unfolding search_after
search_step pool after zero l = absurd (omega arith)
search_step pool after (suc left) l = let e : suc left - 1 ≡ left = omega arith in rw e

in_32 : (p : Option Permit) → number_or_zero p ≤ 32
in_32 (Some p) = p.within
in_32 None = omega arith

onward_by : (n p : ℕ) → p ≤ 32 → p % 32 ≡ n % 32 → (d : Dec (p + 1 ≤ 32)) → (next_in p d).number ≡ n % 32 + 1
onward_by n p w e (yes h) = omega arith
onward_by n p w e (no h) = omega arith

-- the permit after one at a distance stands one further
pub onward : (n : ℕ) (p : Option Permit) → number_or_zero p % 32 ≡ n % 32 → (permit_after p).number ≡ n % 32 + 1
unfolding permit_after
onward n p e = onward_by n (number_or_zero p) (in_32 p) e (dec_le (number_or_zero p + 1) 32)

module _ (pool : Pool) where
  abbrev last : ℕ
  last = number_or_zero pool.last

  -- every permit at a smaller distance after the last granted is held
  abbrev HeldBelow : ℕ → Type 0
  HeldBelow n = (d : ℕ) → d < n → 1 ≤ d → holding pool (permit_at last d) ≢ None

  -- every permit stands at some distance
  all_held : HeldBelow 33 → (permit : ℕ) → 1 ≤ permit → permit ≤ 32 → holding pool permit ≢ None
  all_held held permit from to free =
      let w = in_32 pool.last in
      let d = (permit + 31 - last) % 32 + 1 in
      let e : permit_at last d ≡ permit = omega arith in
      held d (omega arith) (omega arith) (ap (holding pool) e ∙ free)

  found_or : (h : Option Flat) (n : ℕ) (p : Permit) (rest : Option Permit) → holding pool p.number ≡ h → p.number ≡ permit_at last n → 1 ≤ n → n ≤ 32 → HeldBelow n → (HeldBelow (n + 1) → NearestFree pool rest) → NearestFree pool (cond (is_none h) (Some p) rest)
  found_or None n p rest free there from to held further =
      (n, record { from_one = from; to_all = to; there = there; free = free; no_nearer = λ d a b. held d b a })
  found_or (Some f) n p rest taken there from to held further =
      further (below_more _ _ held (λ one none. let z : ◌≡◌ {A = Option Flat} (Some f) None = sym taken ∙ ap (holding pool) there ∙ none in (cc)))

  nearest_after : (left n : ℕ) (p : Option Permit) → n + left ≡ 33 → 1 ≤ n → number_or_zero p % 32 ≡ (last + n - 1) % 32 → HeldBelow n → NearestFree pool (search_after pool p left)
  unfolding search_after
  nearest_after zero n p e from at held = all_held (λ d l. held d (omega arith))
  nearest_after (suc left) n p e from at held =
      let q = permit_after p in
      let there = onward (last + n - 1) p at in
      found_or (holding pool q.number) n q (search_after pool (Some q) left) refl there from (omega arith) held
      (nearest_after left (n + 1) (Some q) (omega arith) (omega arith) (omega arith))

  pub nearest : NearestFree pool (search_after pool pool.last 32)
  nearest = nearest_after 32 1 pool.last refl (omega arith) (omega arith) (λ d l from. absurd (omega arith))
