-- Records.
use Rattle.protocol.specs.declared.record.Record.{Record}
use Rattle.protocol.specs.Rounds.{first_round}

-- the record of a register in which nothing was promised or voted yet
abbrev pub new_record : {V : Type 0} → V → Record V
new_record v = record { promised = first_round; voted = first_round; value = v }
