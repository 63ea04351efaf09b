-- Whether a number is in a range, and what is made of one that is.
use Rattle.std.specs.Prelude.{ℕ, ◌≤◌, Ok, Err, Result}
use Rattle.std.proofs.Math.Decide.{dec_le}
use Rattle.protocol.specs.declared.refusal.OutOfRange.{OutOfRange}

abbrev pub Within : ℕ → ℕ → ℕ → Type 0
Within lo hi n = (lo ≤ n) × (n ≤ hi)

abbrev pub both : {A B : Type 0} → Dec A → Dec B → Dec (A × B)
both (yes a) (yes b) = yes (a, b)
both (yes a) (no b) = no (λ ab. b ab.1)
both (no a) b = no (λ ab. a ab.0)

-- a number is from lo to hi, or it is not
abbrev pub within? : (lo hi n : ℕ) → Dec (Within lo hi n)
within? lo hi n = both (dec_le lo n) (dec_le n hi)

-- a thing is made where its numbers are in range, and refused elsewhere
abbrev pub made : {X R : Type 0} → (R → X) → Dec R → Result X OutOfRange
made make (yes h) = Ok (make h)
made make (no h) = Err (record {})
