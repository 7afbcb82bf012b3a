use Rattle.std.proofs.Common.{◌≡◌, drop}
use Rattle.text.specs.Tokens.{value_of}
use Rattle.text.proofs.tokens.value.Given as goal

abbrev pub invariant-loop-digit : goal.invariant-loop-digit
invariant-loop-digit l = value_of l.number (drop l.digit-index l.digits) ≡ value_of 0 l.digits
