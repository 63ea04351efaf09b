-- The text form of a pool: the flats that hold its 32 permits, 0 where nobody does, and the permit
-- granted last, 0 where none was.
use Rattle.std.specs.Prelude.{ℕ, List, [], ◌∷◌, ◌++◌, Some, None, Option}
use Rattle.std.specs.List.{flat_map}
use Rattle.fields.specs.Forms.{Item, num, Form, range, one, ◌▷◌}
use Rattle.kinds.specs.declared.pool.Flat.{Flat}
use Rattle.kinds.specs.declared.pool.Holder.{Holder}
use Rattle.kinds.specs.declared.pool.Permit.{Permit}
use Rattle.kinds.specs.declared.pool.Pool.{Pool}
use Rattle.kinds.specs.Pools.{flat_of}
use Rattle.texts.specs.Rows.{times}

-- the number of what there is, 0 where there is none
abbrev pub or_zero : {X : Type 0} → (X → ℕ) → Option X → ℕ
or_zero number (Some x) = number x
or_zero number None = 0

-- who holds a permit
abbrev pub holder_form : Form
holder_form = one (range 0 200)

abbrev pub holder_items : Option Flat → List Item
holder_items holder = num (or_zero (λ (flat : Flat). flat.number) holder) ∷ []

-- what a pool keeps of a holder is written as the flat that it says
abbrev pub held_items : Holder → List Item
held_items holder = holder_items (flat_of holder)

abbrev pub last_form : Form
last_form = one (range 0 32)

abbrev pub last_items : Option Permit → List Item
last_items last = num (or_zero (λ (permit : Permit). permit.number) last) ∷ []

unfoldable pub pool_form : Form
pool_form = times 32 holder_form ▷ (λ is. last_form)

abbrev pub pool_items : Pool → List Item
pool_items pool = flat_map held_items pool.holders ++ last_items pool.last
