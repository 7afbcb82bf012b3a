use Rattle.std.proofs.Common.{[], unwrap_or, refl, ap, ◌∙◌}
use Rattle.drawn.specs.Meaning.{sheet}
use Rattle.text.proofs.Absent.{found_in}
use Rattle.text.proofs.writing.move_or_none.Goals as goal

pub returns : goal.returns
returns c =
    c.unwrap_or.ensures ∙ ap (λ o. unwrap_or o (record { target = 0; cost = 0 })) c.move_at.ensures
    ∙ found_in (λ v. v.moves) (record { owner = 0; colour = 0; moves = [] }) (record { target = 0; cost = 0 }) refl (sheet c.args.chart.now).vertices c.args.vertex c.args.number
