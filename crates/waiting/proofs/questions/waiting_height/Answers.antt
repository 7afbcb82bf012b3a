use Rattle.std.proofs.Common.{◌+◌, sym, ap, ◌∙◌}
use Rattle.game.proofs.Positions.{waiting_height, unlaid}
use Rattle.waiting.proofs.questions.waiting_height.Goals as goal

pub returns-then-may_be_laid : goal.returns-then-may_be_laid
returns-then-may_be_laid g c =
    let a = g.C.Chart.meaning c.args.chart.now in
    ap (λ h. h + 2) c.height.ensures ∙ sym (waiting_height a (sym c.if-may_be_laid.ensures))

pub returns-else-may_be_laid : goal.returns-else-may_be_laid
returns-else-may_be_laid g c =
    let a = g.C.Chart.meaning c.args.chart.now in
    sym (ap (λ w. w.height) (unlaid a (sym c.if-may_be_laid.ensures)))
