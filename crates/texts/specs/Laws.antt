-- Meters and pools have their texts, and no two holders have the same.
use Rattle.std.specs.Prelude.{◌≡◌, ◌≤◌, ◌^◌, ℕ, [], ◌∷◌, zero, suc, Some, None, Option, refl}
use Rattle.std.proofs.Common.{sym, ap, ◌∙◌, arith}
use Rattle.std.specs.Result.{result_ok}
use Rattle.std.specs.List.{flat_map}
use Rattle.protocol.specs.Ranges.{Within, within?, made}
use Rattle.fields.specs.Forms.{num, Fit, one, range}
use Rattle.fields.proofs.Joins.{fit_join}
use Rattle.kinds.specs.declared.meter.Meter.{Meter}
use Rattle.kinds.specs.declared.pool.Flat.{Flat}
use Rattle.kinds.specs.declared.pool.Holder.{Holder}
use Rattle.kinds.specs.declared.pool.Permit.{Permit}
use Rattle.kinds.specs.declared.pool.Pool.{Pool}
use Rattle.kinds.specs.Pools.{flat_numbered, flat_of, permit_numbered}
use Rattle.kinds.proofs.Permits.{same_flat, same_holder, same_permit}
use Rattle.texts.specs.Meters.{meter_form, meter_items}
use Rattle.texts.specs.Pools.{or_zero, holder_form, holder_items, held_items, last_form, last_items, pool_form, pool_items}
use Rattle.texts.specs.Rows.{times}
use Rattle.texts.specs.Rowed.{row_fits}

pub meter_fits : (m : Meter) → Fit meter_form (meter_items m)
meter_fits m = let top = m.within in ((omega arith, top, omega arith), tt)

-- what has a number from 1 on, or nothing, which is written as 0
module _ {X : Type 0} (number : X → ℕ) (top : ℕ) (from : (x : X) → 1 ≤ number x) (within : (x : X) → number x ≤ top) where
  option_fits : top ≤ 2 ^ 40 → (o : Option X) → Fit (one (range 0 top)) (num (or_zero number o) ∷ [])
  option_fits small (Some x) = let l = within x in ((omega arith, l, omega arith), tt)
  option_fits small None = ((omega arith, omega arith, omega arith), tt)

  option_apart : ((x y : X) → number x ≡ number y → x ≡ y) → (o p : Option X) → or_zero number o ≡ or_zero number p → o ≡ p
  option_apart same (Some x) (Some y) e = ap Some (same x y e)
  option_apart same (Some x) None e = absurd (omega (arith, from x))
  option_apart same None (Some y) e = absurd (omega (arith, from y))
  option_apart same None None e = refl

  -- what is made of a number that is read
  option_read : (n : ℕ) (make : Within 1 top n → X) → ((h : Within 1 top n) → number (make h) ≡ n) → n ≤ top → (d : Dec (Within 1 top n)) → or_zero number (result_ok (made make d)) ≡ n
  option_read n make is l (yes h) = is h
  option_read zero make is l (no h) = refl
  option_read (suc n) make is l (no h) = absurd (h (omega arith, omega arith))

pub holder_fits : (h : Option Flat) → Fit holder_form (holder_items h)
holder_fits h = option_fits (λ (f : Flat). f.number) 200 (λ f. f.from) (λ f. f.within) (omega arith) h

pub holder_apart : (h k : Option Flat) → holder_items h ≡ holder_items k → h ≡ k
holder_apart h k e = option_apart (λ (f : Flat). f.number) 200 (λ f. f.from) (λ f. f.within) same_flat h k (cc)

pub flat_read : (n : ℕ) → n ≤ 200 → or_zero (λ (f : Flat). f.number) (result_ok (flat_numbered n)) ≡ n
unfolding flat_numbered
flat_read n l = option_read (λ (f : Flat). f.number) 200 (λ f. f.from) (λ f. f.within) n _ (λ h. refl) l (within? 1 200 n)

pub held_fits : (h : Holder) → Fit holder_form (held_items h)
held_fits h = holder_fits (flat_of h)

pub held_apart : (h k : Holder) → held_items h ≡ held_items k → h ≡ k
held_apart h k e =
    let same = ap (or_zero (λ (f : Flat). f.number)) (holder_apart (flat_of h) (flat_of k) e) in
    same_holder h k (sym (flat_read h.number h.within) ∙ same ∙ flat_read k.number k.within)

pub last_fits : (h : Option Permit) → Fit last_form (last_items h)
last_fits h = option_fits (λ (p : Permit). p.number) 32 (λ p. p.from) (λ p. p.within) (omega arith) h

pub last_apart : (h k : Option Permit) → last_items h ≡ last_items k → h ≡ k
last_apart h k e = option_apart (λ (p : Permit). p.number) 32 (λ p. p.from) (λ p. p.within) same_permit h k (cc)

pub permit_read : (n : ℕ) → n ≤ 32 → or_zero (λ (p : Permit). p.number) (result_ok (permit_numbered n)) ≡ n
unfolding permit_numbered
permit_read n l = option_read (λ (p : Permit). p.number) 32 (λ p. p.from) (λ p. p.within) n _ (λ h. refl) l (within? 1 32 n)

pub pool_fits : (pool : Pool) → Fit pool_form (pool_items pool)
unfolding pool_form
pool_fits pool =
    fit_join (times 32 holder_form) (λ is. one (range 0 32)) (flat_map held_items pool.holders) (last_items pool.last)
    (row_fits holder_form held_items held_fits pool.holders 32 pool.whole)
    (last_fits pool.last)
