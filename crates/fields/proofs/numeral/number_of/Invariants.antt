use Rattle.fields.proofs.Digits.{SoFar}
use Rattle.fields.proofs.numeral.number_of.Given as goal

abbrev pub invariant-loop-b : goal.invariant-loop-b
invariant-loop-b l = SoFar l.«field» l.b-index l.n
