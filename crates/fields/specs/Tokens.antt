-- What a token says of its field.
use Rattle.std.specs.Prelude.{◌≡◌, ℕ, ◌^◌, min, Bool, cond, ◌&&◌, List, [], ◌∷◌, Ok, Err, Result, ◌==◌, ◌≢◌, nat_le}
use Rattle.protocol.specs.declared.message.Access.{Access}
use Rattle.protocol.specs.declared.message.Access.TheVariants.{Read, Write}
use Rattle.fields.specs.declared.fault.FaultKind.{FaultKind}
use Rattle.fields.specs.declared.fault.FaultKind.TheVariants.{Form as BadForm, Range}
use Rattle.fields.specs.declared.token.TokenKind.{TokenKind}
use Rattle.fields.specs.declared.token.TokenKind.TheVariants.{Letter, Number, Bad}
use Rattle.fields.specs.Numerals.{Numeral, number}

-- the bytes f of a field are of this kind
abbrev pub Says : List ℕ → TokenKind → Type 0
Says f (Letter b) = (f ≡ b ∷ []) × (Numeral f → ⊥)
Says f (Number n) = Numeral f × (n ≡ min (number f) (2 ^ 50))
Says f Bad = (Numeral f → ⊥) × ((b : ℕ) → f ≢ b ∷ [])

abbrev pub in_range? : ℕ → ℕ → ℕ → Bool
in_range? lo hi n = nat_le lo n && (nat_le n hi && nat_le n (2 ^ 40))

-- the number that a field holds, where it is one from lo to hi and not above the top
abbrev pub number_within : ℕ → ℕ → TokenKind → Result ℕ FaultKind
number_within lo hi (Number n) = cond (in_range? lo hi n) (Ok n) (Err Range)
number_within lo hi (Letter b) = Err BadForm
number_within lo hi Bad = Err BadForm

-- what a field r or w names
abbrev pub access_named : TokenKind → Result Access FaultKind
access_named (Letter b) = cond (b == 114) (Ok Read) (cond (b == 119) (Ok Write) (Err BadForm))
access_named (Number n) = Err BadForm
access_named Bad = Err BadForm
