-- Numbers as a line writes them.
use Rattle.std.specs.Prelude.{◌≡◌, ℕ, ◌<◌, List, length, slice_index_or}
use Rattle.std.specs.Str.Parse.{AllDigits, digits_value}

-- one byte or more, and no zero in front of others
pub record StartsWell (f : List ℕ) : Type 0 where
  pub some : 0 < length f
  pub no_zero : slice_index_or f 0 0 ≡ 48 → length f ≡ 1

-- decimal digits, with no sign and no leading zero
pub record Numeral (f : List ℕ) : Type 0 where
  pub starts : StartsWell f
  pub digits : AllDigits 10 f

-- the number that the digits write
abbrev pub number : List ℕ → ℕ
number f = digits_value 10 f
