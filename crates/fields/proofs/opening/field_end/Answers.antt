use Rattle.std.proofs.Common.{◌≡◌, ℕ, ◌-◌, ◌<◌, length, take, drop, List, get_or, Some, None, Option, refl, arith, rules}
use Rattle.std.specs.Option.{unwrap_or}
use Rattle.fields.specs.Cuts.{Mark}
use Rattle.fields.proofs.Slices.{plain_up_to}
use Rattle.fields.proofs.opening.field_end.Goals as goal

module _ (c : goal.After-unwrap_or) where
  abbrev rest : List ℕ
  rest = take (length c.args.line.now - c.args.from) (drop c.args.from c.args.line.now)

  -- in front of the first mark, and where there is none
  no_mark : (o : Option ℕ) → c.position.result ≡ o → (k : ℕ) → k < unwrap_or o (length rest) → Mark (get_or rest k 0) → ⊥
  no_mark (Some n) e = search rules
  no_mark None e = search rules

pub returns-clause-plain : goal.returns-clause-plain
returns-clause-plain c =
    plain_up_to c.args.line.now c.args.from _ (search rules) (λ k l. no_mark c c.position.result refl k (rw (← c.unwrap_or.ensures) (omega arith)))
