use Rattle.std.proofs.Common.{sym, ap, ◌∙◌}
use Rattle.chart.specs.Arena.{size}
use Rattle.game.proofs.Positions.{waiting_size, unlaid}
use Rattle.waiting.proofs.questions.waiting_size.Goals as goal

pub returns-then-may_be_laid : goal.returns-then-may_be_laid
returns-then-may_be_laid g c =
    let a = g.C.Chart.meaning c.args.chart.now in
    c.positions.ensures ∙ sym (waiting_size a (sym c.if-may_be_laid.ensures))

pub returns-else-may_be_laid : goal.returns-else-may_be_laid
returns-else-may_be_laid g c =
    let a = g.C.Chart.meaning c.args.chart.now in
    sym (ap size (unlaid a (sym c.if-may_be_laid.ensures)))
