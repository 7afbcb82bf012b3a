use Rattle.parity.proofs.Sweeps.{drawn_end}
use Rattle.parity.proofs.workspace.Workspace.attract.Goals as goal

pub returns-clause-drawn : goal.returns-clause-drawn
returns-clause-drawn g c =
    drawn_end _ _ _ _ _ _ _ _ c.loop-attractor.invariant.chased (rw c.loop-attractor.invariant.same.board at c.sweep.ensures.swept) c.loop-attractor-test.false
