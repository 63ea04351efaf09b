-- Commands that are carried one after another.
use Rattle.std.specs.Prelude.{◌≡◌, ℕ, List, [], ◌∷◌, Ok, Result}
use Rattle.protocol.specs.declared.kind.Applied.{Applied}
use Rattle.protocol.specs.declared.kind.Applied.TheVariants.{Carried}
use Rattle.protocol.specs.declared.kind.Denial.{Denial}

-- a command, and the answer that it was given
pub record Done (C : Type 0) : Type 0 where
  pub command : C
  pub answer : ℕ

-- from a value, the commands of a list, the newest first, lead to a value: each is carried where its turn
-- comes, with its answer
pub data History {V C : Type 0} (applies : V → C → Result (Applied V) Denial) (from : V) : List (Done C) → V → Type 0 where
  nothing : History applies from [] from
  one_more : {earlier : List (Done C)} {v w : V} (d : Done C) → History applies from earlier v → applies v d.command ≡ Ok (Carried w d.answer) → History applies from (d ∷ earlier) w

-- of some member of a list
pub data Among {A : Type 0} (P : A → Type 0) : List A → Type 0 where
  first : {a : A} {l : List A} → P a → Among P (a ∷ l)
  further : {a : A} {l : List A} → Among P l → Among P (a ∷ l)
