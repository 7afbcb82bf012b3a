use Rattle.std.proofs.Common.{length-take, arith, ◌∙◌}
use Rattle.parity.proofs.Settling.{settled_longer, sole_winners}
use Rattle.parity.proofs.solver.solve.Goals as goal

pub returns-clause-alone : goal.returns-clause-alone
returns-clause-alone g c =
    let b = g.G.ParityGame.board c.args.game.now in
    sole_winners b (g.met.G.ParityGame.ranged c.args.game.now) _ _
    (settled_longer b c.settle.new.winners c.settle.new.moves _ c.settle.new.moves (c.settle.auto.winners ∙ simp length-take (omega arith))
    (c.settle.auto.moves ∙ simp length-take (omega arith)) c.settle.ensures)
