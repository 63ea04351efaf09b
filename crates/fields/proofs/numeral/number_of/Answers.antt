use Rattle.std.proofs.Common.{arith}
use Rattle.fields.proofs.Digits.{one_more, no_digit}
use Rattle.fields.proofs.numeral.number_of.Goals as goal

pub returns-then-not-is_ascii_digit : goal.returns-then-not-is_ascii_digit
returns-then-not-is_ascii_digit c = no_digit c.args.«field».now c.loop-b.b-index c.loop-b-test.true c.if-not-is_ascii_digit.ensures.cases

pub loop-b-preserved : goal.loop-b-preserved
loop-b-preserved c =
    one_more c.args.«field».now c.loop-b.b-index c.loop-b.n _ c.loop-b.invariant c.loop-b-test.true c.if-not-is_ascii_digit.ensures.cases (omega (arith, c.min-n.ensures))
