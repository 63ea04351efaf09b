use Rattle.std.proofs.Common.{◌≡◌, take, vec_items, vec_capacity}
use Rattle.journal.proofs.journal.cleaning.refill.Given as goal

abbrev pub invariant-loop-entry : goal.invariant-loop-entry
invariant-loop-entry g l = (vec_items l.entries ≡ take l.entry-index l.kept) × (vec_capacity l.entries ≡ vec_capacity l.initial.entries)
