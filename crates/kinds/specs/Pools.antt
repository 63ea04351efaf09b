-- The pool's rules.
use Rattle.std.specs.Prelude.{◌≡◌, ℕ, zero, suc, ◌+◌, ◌-◌, ◌%◌, ◌<◌, ◌≤◌, Bool, cond, List, get_or, replicate, Some, None, is_some, is_none, Ok, Err, Result, count_by, Option, ◌==◌, ◌≢◌, slice_index_or, slice_set, refl}
use Rattle.std.specs.Option.{option_eq}
use Rattle.std.specs.Result.{result_ok}
use Rattle.std.proofs.Common.{length-set, ◌∙◌, arith}
use Rattle.std.proofs.Math.Decide.{dec_le}
use Rattle.protocol.specs.declared.kind.Applied.{Applied}
use Rattle.protocol.specs.declared.kind.Applied.TheVariants.{Carried}
use Rattle.protocol.specs.declared.kind.Denial.{Denial}
use Rattle.protocol.specs.declared.kind.Denial.TheVariants.{NoPermitFree, NotTheHolder}
use Rattle.protocol.specs.declared.refusal.OutOfRange.{OutOfRange}
use Rattle.protocol.specs.Ranges.{within?, made}
use Rattle.protocol.specs.Refusals.{if_there}
use Rattle.kinds.specs.declared.pool.Flat.{Flat}
use Rattle.kinds.specs.declared.pool.Holder.{Holder}
use Rattle.kinds.specs.declared.pool.Permit.{Permit}
use Rattle.kinds.specs.declared.pool.Pool.{Pool}
use Rattle.kinds.specs.declared.pool.PoolCommand.{PoolCommand}
use Rattle.kinds.specs.declared.pool.PoolCommand.TheVariants.{Take, GiveBack}

-- the permits are numbered 1 to 32
unfoldable pub permit_numbered : ℕ → Result Permit OutOfRange
permit_numbered n = made (λ h. record { number = n; from = h.0; within = h.1 }) (within? 1 32 n)

-- the flats are numbered 1 to 200
unfoldable pub flat_numbered : ℕ → Result Flat OutOfRange
flat_numbered n = made (λ h. record { number = n; from = h.0; within = h.1 }) (within? 1 200 n)

-- the flat that a holder says, if any: the one with its number
abbrev pub flat_of : Holder → Option Flat
flat_of holder = result_ok (flat_numbered holder.number)

-- the holder that says this
abbrev pub holder_for : Option Flat → Holder
holder_for (Some flat) = record { number = flat.number; within = flat.within }
holder_for None = record { number = 0; within = omega arith }

-- in a new pool nobody holds any permit, and none was granted yet
unfoldable pub new_pool : Pool
new_pool = record { holders = replicate 32 (holder_for None); last = None; whole = refl }

-- the number of a permit, 0 where there is none
abbrev pub number_or_zero : Option Permit → ℕ
number_or_zero (Some p) = p.number
number_or_zero None = 0

abbrev pub next_in : (p : ℕ) → Dec (p + 1 ≤ 32) → Permit
next_in p (yes h) = record { number = p + 1; from = omega arith; within = h }
next_in p (no h) = record { number = 1; from = omega arith; within = omega arith }

-- the permit after p; 1 comes after 32, and after none
unfoldable pub permit_after : Option Permit → Permit
permit_after p = next_in (number_or_zero p) (dec_le (number_or_zero p + 1) 32)

-- who holds a permit
abbrev pub holder_of : Pool → Permit → Option Flat
holder_of pool p = flat_of (slice_index_or pool.holders (p.number - 1) (holder_for None))

-- a permit is free where nobody holds it
abbrev pub free? : Pool → Permit → Bool
free? pool p = is_none (holder_of pool p)

-- THE SEARCH after p is the permit after p when that is free, else the search after it, with one fewer
-- left to look at
unfoldable pub search_after : Pool → Option Permit → ℕ → Option Permit
search_after pool p zero = None
search_after pool p (suc left) =
    cond (free? pool (permit_after p)) (Some (permit_after p)) (search_after pool (Some (permit_after p)) left)

-- the search after the permit granted last, among all 32
abbrev pub first_free : Pool → Option Permit
first_free pool = search_after pool pool.last 32

-- the pool in which this is the holder of the permit
abbrev pub with_holder : Pool → Permit → Option Flat → Pool
with_holder pool p holder = record {
  holders = slice_set pool.holders (p.number - 1) (holder_for holder);
  last = pool.last;
  whole = length-set pool.holders (p.number - 1) (holder_for holder) ∙ pool.whole;
}

-- the pool after a grant: this flat holds the permit, which is the one granted last
abbrev pub granted : Pool → Permit → Flat → Pool
granted pool p flat = record (with_holder pool p (Some flat)) { last = Some p }

-- the pool after a give-back: nobody holds the permit
abbrev pub given_back : Pool → Permit → Pool
given_back pool p = with_holder pool p None

-- how many permits are held
abbrev pub held_in : List Holder → ℕ
held_in holders = count_by (λ h. is_some (flat_of h)) holders

abbrev pub count_of : Pool → ℕ
count_of pool = held_in pool.holders

abbrev pub granting : Pool → Flat → Option Permit → Result (Applied Pool) Denial
granting pool flat (Some p) = Ok (Carried (granted pool p flat) p.number)
granting pool flat None = Err NoPermitFree

-- a take grants the first free permit after the last granted, and answers it
abbrev pub taking : Pool → Flat → Result (Applied Pool) Denial
taking pool flat = granting pool flat (first_free pool)

-- flats are told apart by their numbers
abbrev pub one_flat? : Flat → Flat → Bool
one_flat? a b = a.number == b.number

-- a give-back by the holder answers how many permits stay held
abbrev pub giving_back : Pool → Permit → Flat → Result (Applied Pool) Denial
giving_back pool p flat =
    cond (option_eq one_flat? (holder_of pool p) (Some flat))
    (Ok (Carried (given_back pool p) (count_of (given_back pool p))))
    (Err NotTheHolder)

-- all the rules: a command out of range is denied first
abbrev pub pool_applies : Pool → PoolCommand → Result (Applied Pool) Denial
pool_applies pool (Take flat) = if_there (flat_numbered flat) (λ f. taking pool f)
pool_applies pool (GiveBack permit flat) = if_there (permit_numbered permit) (λ p. if_there (flat_numbered flat) (λ f. giving_back pool p f))

-- the permit at a distance after p, going round
abbrev pub permit_at : ℕ → ℕ → ℕ
permit_at p distance = (p + distance - 1) % 32 + 1

-- who holds the permit with this number
abbrev pub holding : Pool → ℕ → Option Flat
holding pool permit = flat_of (get_or pool.holders (permit - 1) (holder_for None))

-- a permit is free and stands at this distance after the last granted, and no nearer one is free
pub record NearestAt (pool : Pool) (permit distance : ℕ) : Type 0 where
  pub from_one : 1 ≤ distance
  pub to_all : distance ≤ 32
  pub there : permit ≡ permit_at (number_or_zero pool.last) distance
  pub free : holding pool permit ≡ None
  pub no_nearer : (d : ℕ) → 1 ≤ d → d < distance → holding pool (permit_at (number_or_zero pool.last) d) ≢ None

-- the nearest free permit after the last granted; none only where all are held
abbrev pub NearestFree : Pool → Option Permit → Type 0
NearestFree pool (Some p) = (distance : ℕ) × NearestAt pool p.number distance
NearestFree pool None = (permit : ℕ) → 1 ≤ permit → permit ≤ 32 → holding pool permit ≢ None
