-- The sizes that a group may have.
use Rattle.std.specs.Prelude.{ℕ, ◌+◌, ◌/◌, cond, Ok, Err, Result, ◌==◌}
use Rattle.protocol.specs.declared.group.GroupSize.{GroupSize}
use Rattle.protocol.specs.declared.group.GroupSize.TheVariants.{Three, Five, Seven}
use Rattle.protocol.specs.declared.refusal.OutOfRange.{OutOfRange}

abbrev pub keepers_in : GroupSize → ℕ
keepers_in Three = 3
keepers_in Five = 5
keepers_in Seven = 7

abbrev pub majority_of : GroupSize → ℕ
majority_of g = (keepers_in g + 1) / 2

-- the group of so many keepers
abbrev pub group_of : ℕ → Result GroupSize OutOfRange
group_of n = cond (n == 3) (Ok Three) (cond (n == 5) (Ok Five) (cond (n == 7) (Ok Seven) (Err (record {}))))
