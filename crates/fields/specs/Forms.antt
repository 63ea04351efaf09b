-- What the fields of a text are, and what they have to be.
use Rattle.std.specs.Prelude.{◌≡◌, ℕ, ◌^◌, ◌≤◌, ◌⊎◌, List, [], ◌∷◌, ◌++◌, decimal}

-- what a field holds: a number, or one letter
pub data Item : Type 0 where
  num : ℕ → Item
  letter : ℕ → Item

-- how an item is written
abbrev pub spelt : Item → List ℕ
spelt (num n) = decimal n
spelt (letter b) = b ∷ []

-- items as fields, each behind a tab
abbrev pub written : List Item → List ℕ
written [] = []
written (i ∷ is) = 9 ∷ (spelt i ++ written is)

-- what a field has to be: a number from lo to hi, or the letter r (read) or w (write)
pub data Shape : Type 0 where
  range : ℕ → ℕ → Shape
  access : Shape

-- no number of a line is above 2 ^ 40
abbrev pub InRange : ℕ → ℕ → ℕ → Type 0
InRange lo hi n = (lo ≤ n) × (n ≤ hi) × (n ≤ 2 ^ 40)

abbrev pub Meets : Shape → Item → Type 0
Meets (range lo hi) (num n) = InRange lo hi n
Meets (range lo hi) (letter b) = ⊥
Meets access (num n) = ⊥
Meets access (letter b) = (b ≡ 114) ⊎ (b ≡ 119)

-- fields one after another: what a field has to be may depend on the items before it
pub data Form : Type 0 where
  end : Form
  field : Shape → (Item → Form) → Form

-- the items are as many as the form has fields, and each meets its shape
abbrev pub Fit : Form → List Item → Type 0
Fit end [] = Unit {0}
Fit end (i ∷ is) = ⊥
Fit (field s next) [] = ⊥
Fit (field s next) (i ∷ is) = Meets s i × Fit (next i) is

-- one field
abbrev pub one : Shape → Form
one s = field s (λ i. end)

infixr 30 ◌▷◌
-- one form after another, which may depend on the items of the first
abbrev pub ◌▷◌ : Form → (List Item → Form) → Form
◌▷◌ end after = after []
◌▷◌ (field s next) after = field s (λ i. next i ▷ (λ is. after (i ∷ is)))
