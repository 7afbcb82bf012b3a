use Rattle.std.proofs.Common.{sym, arith, eq-eqb, ne_eqb}
use Rattle.parity.proofs.Lowest.{lowest_at, lowest_nowhere}
use Rattle.parity.proofs.solver.dead_end.Goals as goal

pub returns-then-degree-eq0 : goal.returns-then-degree-eq0
returns-then-degree-eq0 g c =
    let b = g.G.ParityGame.board c.args.game.now in
    sym (lowest_at _ b.size c.loop-position.position (omega arith) (eq-eqb (b.game.degree c.loop-position.position) 0 (omega arith)) (λ q h. ne_eqb _ 0 (c.loop-position.invariant q h)))

pub returns : goal.returns
returns g c = let b = g.G.ParityGame.board c.args.game.now in sym (lowest_nowhere _ b.size (λ q h. ne_eqb _ 0 (c.loop-position.invariant q (omega arith))))
