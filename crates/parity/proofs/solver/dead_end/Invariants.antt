use Rattle.std.proofs.Common.{◌≢◌, ℕ, ◌<◌}
use Rattle.parity.proofs.solver.dead_end.Given as goal

abbrev pub invariant-loop-position : goal.invariant-loop-position
invariant-loop-position g l = (p : ℕ) → p < l.position → (g.G.ParityGame.board l.game).game.degree p ≢ 0
