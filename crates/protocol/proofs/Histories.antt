-- Histories taken apart.
use Rattle.std.proofs.Common.{◌≡◌, List, [], ◌∷◌, ◌++◌, Ok, Result}
use Rattle.protocol.specs.declared.kind.Applied.{Applied}
use Rattle.protocol.specs.declared.kind.Applied.TheVariants.{Carried}
use Rattle.protocol.specs.declared.kind.Denial.{Denial}
use Rattle.protocol.specs.Histories.{Done, History, nothing, one_more}

module _ {V C : Type 0} (applies : V → C → Result (Applied V) Denial) (from : V) where
  -- the newest command, and what led up to it
  pub newest : (d : Done C) (earlier : List (Done C)) (to : V) → History applies from (d ∷ earlier) to → (v : V) × (History applies from earlier v × (applies v d.command ≡ Ok (Carried to d.answer)))
  newest d earlier to (one_more {v = v} _ h e) = (v, (h, e))

  -- the newer part of a history starts where the older part ends
  pub parts : (newer older : List (Done C)) (to : V) → History applies from (newer ++ older) to → (v : V) × (History applies from older v × History applies v newer to)
  parts [] older to h = (to, (h, nothing))
  parts (d ∷ newer) older to (one_more {v = v} _ h e) = let r = parts newer older v h in (r.0, (r.1.0, one_more d r.1.1 e))
