-- A number's digits, read one by one.
use Rattle.std.proofs.Common.{◌≡◌, ℕ, ◌+◌, ◌-◌, ◌*◌, ◌^◌, ◌<◌, ◌≤◌, min, List, [], ◌∷◌, length, get_or, take, decimal, sym, subst, inr, arith, rules}
use Rattle.std.specs.Str.Parse.{AllDigits, digits_value}
use Rattle.std.specs.Char.{digit_value}
use Rattle.std.specs.Int.{IsInRange, IsOutOfRange}
use Rattle.std.proofs.lemmas.Fmt.{decimal-digits_value, decimal_is_IsNumeral, first_decimal, decimal_digit}
use Rattle.std.proofs.lemmas.Int.Digits.{digits_value_more, digits_more}
use Rattle.std.proofs.ByRecursion.{All-from_get_or}
use Rattle.std.proofs.lemmas.Str.Parse.{digit_at, tells_digits, numerals_by_value, IsNumeralModel}
use Rattle.fields.specs.Cuts.{Mark, Plain}
use Rattle.fields.specs.Numerals.{Numeral, number}

-- the first i bytes are digits, which write n, or more than the cap where n is that
pub record SoFar (f : List ℕ) (i n : ℕ) : Type 0 where
  pub digits : AllDigits 10 (take i f)
  pub capped : n ≡ min (number (take i f)) (2 ^ 50)

pub one_more : (f : List ℕ) (i n m : ℕ) → SoFar f i n → i < length f → IsInRange 48 57 (get_or f i 0) → m ≡ min (n * 10 + (get_or f i 0 - 48)) (2 ^ 50) → SoFar f (i + 1) m
one_more f i n m s l h e =
    let d : (digit_value (get_or f i 0) ≡ get_or f i 0 - 48) × (digit_value (get_or f i 0) < 10) = search rules in
    let v = digits_value_more 10 f i l in
    record { digits = digits_more 10 f i l s.digits d.1; capped = omega (arith, e, v, s.capped, d.0) }

pub no_digit : (f : List ℕ) (i : ℕ) → i < length f → IsOutOfRange 48 57 (get_or f i 0) → Numeral f → ⊥
no_digit f i l o n = omega (arith, digit_at f i n.digits l)

-- a field of one byte that is no digit is no number
pub no_digit_alone : (f : List ℕ) (b : ℕ) → Numeral f → f ≡ b ∷ [] → 57 < b → ⊥
no_digit_alone f b n e o = no_digit f 0 n.starts.some (subst (λ g. IsOutOfRange 48 57 (get_or g 0 0)) (sym e) (inr o)) n

own : IsNumeralModel (AllDigits 10) (digits_value 10)
own = numerals_by_value (AllDigits 10) tells_digits

-- a number is written in one way
pub decimal_number : (f : List ℕ) → Numeral f → number f < 2 ^ 64 → decimal (number f) ≡ f
decimal_number f n h = decimal-digits_value own f n.digits n.starts.some n.starts.no_zero h

pub numeral_decimal : (n : ℕ) → n ≤ 2 ^ 40 → Numeral (decimal n) × (number (decimal n) ≡ n)
numeral_decimal n h =
    let r = decimal_is_IsNumeral n (omega arith) in
    (record { starts = record { some = r.0.0; no_zero = λ e. grind (arith, first_decimal n, decimal_digit n) }; digits = r.0.1 }, r.1)

-- digits hold no tab and no line feed
pub plain_digits : (f : List ℕ) → AllDigits 10 f → Plain f
plain_digits f d = All-from_get_or (λ b. Mark b → ⊥) f 0 (λ i l m. let h = digit_at f i d l in omega (arith, m, h))
