use Rattle.drawn.specs.Meaning.{sheet}
use Rattle.text.proofs.Absent.{asked}
use Rattle.text.proofs.writing.colour_number.Goals as goal

pub returns : goal.returns
returns c = asked (sheet c.args.chart.now) c.args.vertex (λ v. v.colour) _ c.colour.result c.unwrap_or.ensures c.colour.ensures
