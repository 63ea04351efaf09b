-- The table of worked cases.
use Rattle.std.specs.Prelude.{ℕ, List, [], ◌∷◌, Some, None, replicate, slice_set, refl}
use Rattle.std.proofs.Common.{arith}
use Rattle.protocol.specs.declared.message.Access.TheVariants.{Write}
use Rattle.protocol.specs.declared.message.Body.{Body}
use Rattle.protocol.specs.declared.message.Body.TheVariants.{Prepare, PrepareAt, Vote}
use Rattle.protocol.specs.declared.message.Message.{Message}
use Rattle.protocol.specs.declared.message.Number.{Number}
use Rattle.kinds.specs.declared.meter.Meter.{Meter}
use Rattle.kinds.specs.declared.pool.Flat.{Flat}
use Rattle.kinds.specs.declared.pool.Permit.{Permit}
use Rattle.kinds.specs.declared.pool.Pool.{Pool}
use Rattle.kinds.specs.declared.pool.PoolCommand.{PoolCommand}
use Rattle.kinds.specs.declared.pool.PoolCommand.TheVariants.{Take, GiveBack}
use Rattle.kinds.specs.Pools.{holder_for, new_pool, pool_applies}
use Rattle.once.specs.declared.layer.Request.{Request}
use Rattle.fields.specs.Forms.{num, letter}
use Rattle.worked_cases.specs.Cases.{Case, of_pool, of_layer, of_keeper, carried, already, denied, replied, refused, after}

-- a new pool after these commands
abbrev new_pool_after : List PoolCommand → Pool
new_pool_after commands = after pool_applies new_pool commands

abbrev flat_1 : Flat
flat_1 = record { number = 1; from = omega arith; within = omega arith }

abbrev permit_32 : Permit
permit_32 = record { number = 32; from = omega arith; within = omega arith }

-- flat 1 holds every permit but the fifth, and the last granted is 32
abbrev only_5_free : Pool
only_5_free = record { holders = slice_set (replicate 32 (holder_for (Some flat_1))) 4 (holder_for None); last = Some permit_32; whole = refl }

-- hub 3 asks with this number
abbrev hub_3 : ℕ → PoolCommand → Request PoolCommand
hub_3 number command = record { hub = 3; number = number; command = command }

-- register 0, hub 1, attempt 1
abbrev by_hub_1 : Body Meter → Message Meter
by_hub_1 body = record {
  head = record { register = 0; hub = 1; attempt = 1; register_within = omega arith; hub_from = omega arith; hub_within = omega arith; attempt_from = omega arith; attempt_within = omega arith };
  body = body;
}

-- register 0, hub 2, attempt 2
abbrev by_hub_2 : Body Meter → Message Meter
by_hub_2 body = record {
  head = record { register = 0; hub = 2; attempt = 2; register_within = omega arith; hub_from = omega arith; hub_within = omega arith; attempt_from = omega arith; attempt_within = omega arith };
  body = body;
}

abbrev at_1 : Number
at_1 = record { n = 1; from = omega arith; within = omega arith }

abbrev meter_25 : Meter
meter_25 = record { total = 25; within = omega arith }

-- hub 1 prepares a write, and asks for votes for 25; hub 2 prepares at 1
abbrev prepare : Message Meter
prepare = by_hub_1 (Prepare Write)

abbrev vote : Message Meter
vote = by_hub_1 (Vote at_1 meter_25)

abbrev prepare_at_1 : Message Meter
prepare_at_1 = by_hub_2 (PrepareAt at_1)

-- 80, 86, 70, 65, 68 and 119 are P, V, F, A, D and w
abbrev pub cases : List Case
cases =
    of_pool new_pool (Take 7) (carried 1)
    ∷ of_pool (new_pool_after (Take 7 ∷ [])) (Take 7) (carried 2)
    ∷ of_pool (new_pool_after (Take 7 ∷ Take 7 ∷ [])) (GiveBack 1 7) (carried 1)
    ∷ of_pool (new_pool_after (Take 7 ∷ Take 7 ∷ GiveBack 1 7 ∷ [])) (Take 9) (carried 3)
    ∷ of_pool only_5_free (Take 9) (carried 5)
    ∷ of_layer [] (hub_3 5 (Take 7)) (carried 1)
    ∷ of_layer (hub_3 5 (Take 7) ∷ []) (hub_3 5 (Take 7)) (already 1)
    ∷ of_layer (hub_3 5 (Take 7) ∷ []) (hub_3 4 (Take 7)) (denied 6)
    ∷ of_keeper [] prepare (letter 80 ∷ num 0 ∷ num 1 ∷ num 1 ∷ letter 119 ∷ [])
    (replied (letter 65 ∷ num 0 ∷ num 1 ∷ num 1 ∷ num 0 ∷ num 1 ∷ num 1 ∷ num 0 ∷ num 0 ∷ num 0 ∷ num 0 ∷ []))
    ∷ of_keeper (prepare ∷ []) vote (letter 86 ∷ num 0 ∷ num 1 ∷ num 1 ∷ num 1 ∷ num 25 ∷ [])
    (replied (letter 68 ∷ num 0 ∷ num 1 ∷ num 1 ∷ num 0 ∷ num 1 ∷ []))
    ∷ of_keeper (prepare ∷ vote ∷ []) prepare_at_1 (letter 70 ∷ num 0 ∷ num 2 ∷ num 2 ∷ num 1 ∷ [])
    (refused 3)
    ∷ []
