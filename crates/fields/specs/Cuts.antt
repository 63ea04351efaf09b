-- How a line is cut into fields, at its tabs (byte 9) and its line feed (byte 10).
use Rattle.std.specs.Prelude.{◌≡◌, ℕ, ◌+◌, ◌-◌, ◌<◌, ◌≤◌, List, [], ◌∷◌, ◌++◌, length, ◌≢◌, slice_index, slice_index_or}
use Rattle.std.specs.List.{AllByRecursion}

-- a tab or a line feed
abbrev pub Mark : ℕ → Type 0
Mark b = (9 ≤ b) × (b ≤ 10)

-- the last byte is the only line feed
pub record Closed (line : List ℕ) : Type 0 where
  pub some : 0 < length line
  pub last : slice_index_or line (length line - 1) 0 ≡ 10
  pub only : (i : ℕ) → i + 1 < length line → slice_index line i ≢ 10

-- at most 1,024 bytes, of which the last is the only line feed
pub record Framed (line : List ℕ) : Type 0 where
  pub short : length line ≤ 1024
  pub closed : Closed line

-- the bytes of one field: no tab and no line feed
abbrev pub Plain : List ℕ → Type 0
Plain f = AllByRecursion (λ b. Mark b → ⊥) f

-- a field ends here: the next byte is a tab or the line feed
abbrev pub Ends : List ℕ → Type 0
Ends [] = ⊥
Ends (b ∷ bs) = Mark b

-- f is the field behind the tab that begins bs, and more is what follows it
pub record Next (bs f more : List ℕ) : Type 0 where
  pub is : bs ≡ 9 ∷ (f ++ more)
  pub plain : Plain f
  pub ends : Ends more
