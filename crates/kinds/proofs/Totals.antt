-- A total within the top is carried.
use Rattle.std.proofs.Common.{◌≡◌, ℕ, ◌≤◌, Ok, ap, arith}
use Rattle.protocol.specs.declared.kind.Applied.TheVariants.{Carried}
use Rattle.protocol.proofs.Same.{within_path}
use Rattle.kinds.specs.declared.meter.Meter.{Meter}
use Rattle.kinds.specs.Meters.{reaches}

pub same_meter : (a b : Meter) → a.total ≡ b.total → a ≡ b
same_meter a b p = λ i. record { total = p i; within = within_path p 4000000000 a.within b.within i }

pub carried : (m : Meter) (total : ℕ) (d : Dec (total ≤ 4000000000)) → m.total ≡ total → Ok (Carried m total) ≡ reaches total d
carried m total (yes h) e = ap (λ x. Ok (Carried x total)) (same_meter m _ e)
carried m total (no h) e = absurd (h (omega (arith, m.within)))
