-- The law of grants, over lists of carried commands, the newest first.
use Rattle.std.specs.Prelude.{◌≡◌, ℕ, List, ◌∷◌, ◌++◌}
use Rattle.protocol.specs.Histories.{Done, History, Among}
use Rattle.kinds.specs.declared.pool.Pool.{Pool}
use Rattle.kinds.specs.declared.pool.PoolCommand.{PoolCommand}
use Rattle.kinds.specs.declared.pool.PoolCommand.TheVariants.{Take, GiveBack}
use Rattle.kinds.specs.Pools.{pool_applies}

-- the flat took this permit: that is the answer it was given
pub record Grants (flat permit : ℕ) (d : Done PoolCommand) : Type 0 where
  pub takes : d.command ≡ Take flat
  pub answers : d.answer ≡ permit

-- the flat gave this permit back
abbrev pub GivesBack : ℕ → ℕ → Done PoolCommand → Type 0
GivesBack flat permit d = d.command ≡ GiveBack permit flat

-- from any pool: between two grants of one permit stands a give-back of it by the flat of the older grant
abbrev pub GivenBackBetween : Type 0
GivenBackBetween =
    (from to : Pool) (newer between older : List (Done PoolCommand)) (second first : Done PoolCommand) (permit flat other : ℕ) →
    History pool_applies from (newer ++ (second ∷ (between ++ (first ∷ older)))) to →
    Grants flat permit first →
    Grants other permit second →
    Among (GivesBack flat permit) between
