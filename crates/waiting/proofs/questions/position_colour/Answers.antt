use Rattle.std.proofs.Common.{◌∙◌}
use Rattle.waiting.proofs.Answered.{colour_shown}
use Rattle.waiting.proofs.questions.position_colour.Goals as goal

pub returns-then-position-gt0 : goal.returns-then-position-gt0
returns-then-position-gt0 g c =
    let a = g.C.Chart.meaning c.args.chart.now in
    c.colour.ensures ∙ colour_shown a c.args.number c.in_ok-position.position c.in_ok-position.ensures c.if-position-eq0.true c.if-position-gt0.true
