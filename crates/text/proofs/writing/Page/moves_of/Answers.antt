use Rattle.std.proofs.Common.{length, ap, arith}
use Rattle.drawn.specs.Meaning.{sheet}
use Rattle.text.specs.Lines.{spelt}
use Rattle.text.specs.Writing.{move_line, vertex_or_none, move_or_none}
use Rattle.text.proofs.Absent.{asked}
use Rattle.text.proofs.Putting.{puts_same, put_more, put_all}
use Rattle.text.proofs.writing.Page.moves_of.Goals as goal

pub loop-number-preserved : goal.loop-number-preserved
loop-number-preserved c =
    let d = c.args.chart.now in
    let deg = asked (sheet d) c.args.vertex (λ v. length v.moves) _ _ c.unwrap_or-number-end.ensures c.degree.ensures in
    put_more (λ x. spelt (move_line c.args.vertex x)) (vertex_or_none (sheet d) c.args.vertex).moves c.loop-number.number (record { target = 0; cost = 0 }) _ _ _
    (omega (arith, c.loop-number-test.true, deg)) c.loop-number.invariant
    (puts_same (spelt (move_line c.args.vertex c.move_or_none-target.result)) (spelt (move_line c.args.vertex (move_or_none (sheet d) c.args.vertex c.loop-number.number))) _ _
    (ap (λ x. spelt (move_line c.args.vertex x)) c.move_or_none-target.ensures) c.line.ensures)

pub returns : goal.returns
returns c =
    let d = c.args.chart.now in
    let deg = asked (sheet d) c.args.vertex (λ v. length v.moves) _ _ c.unwrap_or-number-end.ensures c.degree.ensures in
    put_all spelt (move_line c.args.vertex) (vertex_or_none (sheet d) c.args.vertex).moves c.loop-number.number _ _ (omega (arith, c.loop-number-test.false, deg)) c.loop-number.invariant
