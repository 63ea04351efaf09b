use Rattle.std.proofs.Common.{◌-◌, length, drop}
use Rattle.journal.proofs.Cleans.{Gathered}
use Rattle.journal.proofs.journal.cleaning.gather.Given as goal

-- of the entries that were met, which are the newest, the latest ones are gathered
abbrev pub invariant-loop-entry : goal.invariant-loop-entry
invariant-loop-entry g l = Gathered (drop (length l.entries - length l.yielded) l.entries) l.own l.from
