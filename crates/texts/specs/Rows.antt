-- The form of values in a row.
use Rattle.std.specs.Prelude.{ℕ, zero, suc}
use Rattle.fields.specs.Forms.{Form, end, ◌▷◌}

-- so many times the same fields
abbrev pub times : ℕ → Form → Form
times zero form = end
times (suc n) form = form ▷ (λ is. times n form)
