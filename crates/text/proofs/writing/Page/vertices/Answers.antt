use Rattle.std.proofs.Common.{arith}
use Rattle.drawn.specs.Meaning.{sheet}
use Rattle.text.specs.Lines.{spelt}
use Rattle.text.specs.Writing.{vertex_line}
use Rattle.text.proofs.Putting.{put_all}
use Rattle.text.proofs.writing.Page.vertices.Goals as goal

pub returns : goal.returns
returns c = put_all spelt vertex_line (sheet c.args.chart.now).vertices c.loop-vertex.vertex _ _ (omega (arith, c.loop-vertex-test.false, c.size-vertex-end.ensures)) c.loop-vertex.invariant
