use Rattle.std.proofs.Common.{◌∷◌}
use Rattle.text.proofs.Numerals.{one_number}
use Rattle.text.proofs.Fields.{fielded_number}
use Rattle.text.proofs.tokens.field.Goals as goal

pub returns-in_err-rest : goal.returns-in_err-rest
returns-in_err-rest c =
    rw c.from_residual-in_err-rest.ensures (λ n rest f. c.in_err-rest.ensures rest (one_number c.args.bytes.now c.in_ok-number.number n c.in_ok-number.ended.now (c.args.end ∷ rest) c.in_ok-number.ensures (fielded_number c.args.bytes.now c.args.end n rest c.requires f)).1)
