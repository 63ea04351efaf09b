-- What is made of numbers in their range, and what is not.
use Rattle.std.proofs.Common.{◌≡◌, Ok, Err, Result, refl, ap}
use Rattle.protocol.specs.declared.kind.Denial.{Denial}
use Rattle.protocol.specs.declared.refusal.OutOfRange.{OutOfRange}
use Rattle.protocol.specs.Ranges.{made}
use Rattle.protocol.specs.Refusals.{if_there}

pub is_made : {X R : Type 0} (make : R → X) (x : X) → R → ((h : R) → x ≡ make h) → (d : Dec R) → Ok x ≡ made make d
is_made make x r e (yes h) = ap Ok (e h)
is_made make x r e (no h) = absurd (h r)

pub not_made : {X R : Type 0} (make : R → X) → (R → ⊥) → (d : Dec R) → Err (record {}) ≡ made make d
not_made make out (yes h) = absurd (out h)
not_made make out (no h) = refl

-- what was made was in range
pub made_of : {X R : Type 0} (make : R → X) (x : X) (d : Dec R) → made make d ≡ Ok x → (h : R) × (make h ≡ x)
made_of make x (yes h) e = (h, cc)
made_of make x (no h) e = absurd (cc)

-- a command that is not denied names what there is
pub was_there : {X A : Type 0} (r : Result X OutOfRange) (applied : X → Result A Denial) (a : A) → if_there r applied ≡ Ok a → (x : X) × ((r ≡ Ok x) × (applied x ≡ Ok a))
was_there (Ok x) applied a e = (x, (refl, e))
was_there (Err o) applied a e = absurd (cc)
