use Rattle.std.proofs.Common.{sym, ◌∙◌, arith}
use Rattle.std.proofs.lemmas.List.{at_drop_all}
use Rattle.text.specs.Tokens.{value_of}
use Rattle.text.proofs.Numerals.{digit_low, value_fits, value_more}
use Rattle.text.proofs.tokens.value.Goals as goal

pub overflow_sub-number : goal.overflow_sub-number
overflow_sub-number c = digit_low c.args.digits.now c.loop-digit.digit-index c.requires.all c.loop-digit-test.true

pub overflow_mul-number : goal.overflow_mul-number
overflow_mul-number c = omega (arith, value_fits c.args.digits.now c.requires.all c.requires.few c.loop-digit.number c.loop-digit.digit-index c.loop-digit-test.true c.loop-digit.invariant)

pub overflow_add-number : goal.overflow_add-number
overflow_add-number c = omega (arith, value_fits c.args.digits.now c.requires.all c.requires.few c.loop-digit.number c.loop-digit.digit-index c.loop-digit-test.true c.loop-digit.invariant)

pub loop-digit-preserved : goal.loop-digit-preserved
loop-digit-preserved c = value_more c.args.digits.now c.requires.all c.requires.few c.loop-digit.number c.loop-digit.digit-index c.loop-digit-test.true c.loop-digit.invariant

pub returns : goal.returns
returns c = sym (at_drop_all (value_of c.loop-digit.number) c.args.digits.now c.loop-digit.digit-index (omega arith)) ∙ c.loop-digit.invariant
