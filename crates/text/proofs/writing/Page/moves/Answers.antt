use Rattle.std.proofs.Common.{[], arith}
use Rattle.drawn.specs.Meaning.{sheet}
use Rattle.text.proofs.Putting.{put_vertex_moves}
use Rattle.text.proofs.writing.Page.moves.Goals as goal

pub loop-vertex-preserved : goal.loop-vertex-preserved
loop-vertex-preserved c =
    put_vertex_moves (sheet c.args.chart.now).vertices c.loop-vertex.vertex (record { owner = 0; colour = 0; moves = [] }) _ _ _
    (omega (arith, c.loop-vertex-test.true, c.size-vertex-end.ensures)) c.loop-vertex.invariant c.moves_of.ensures
