use Rattle.std.proofs.Common.{ℕ, ◌-◌, ap, ◌∙◌, get_or, arith, rules}
use Rattle.chart.specs.Players.{numbered}
use Rattle.parity.specs.Workspaces.{board_of, sheet_of}
use Rattle.parity.proofs.Topped.{Topped}
use Rattle.parity.proofs.Steps.{step_topped, step_below, step_over, step_again, step_less, step_last_below, step_last}
use Rattle.parity.proofs.workspace.Workspace.+solve_region.Goals as goal
use Rattle.parity.proofs.workspace.Workspace.+solve_region.Goals.{After-attract}
use Rattle.parity.proofs.workspace.Workspace.+solve_region.Given.{Over}

topped_there : (g : Over) (t : ℕ) (c : After-attract g t) → Topped (board_of c.args.self.now) (numbered c.favoured-player.result) (c.args.colours - 1) (c.args.bound - 2) (sheet_of c.rounds.self) (sheet_of c.attract.new.self)
topped_there g t c =
    let r = g.met.G.ParityGame.ranged c.args.self.now.game.now in
    let e = c.rounds.invariant.same.board in
    step_topped _ r c.args.colours c.args.bound c.if-colours-eq0.false _ c.requires _ _ _ c.rounds.invariant.round _ _ c.seed.result (rw e at c.seed.ensures.seeded) (rw (c.seed.ensures.same.board ∙ e) at c.attract.ensures.drawn)

pub solve_region-requires : goal.solve_region-requires
solve_region-requires g t c κs within =
    let r = g.met.G.ParityGame.ranged c.args.self.now.game.now in
    let e = c.attract.ensures.same.board ∙ (c.seed.ensures.same.board ∙ c.rounds.invariant.same.board) in
    let below = step_below _ r c.args.colours c.args.bound c.if-colours-eq0.false _ c.requires _ _ _ c.rounds.invariant.round _
    (topped_there g t (goal.at.solve_region-requires g t c).After-attract) _ (rw e at c.highest-below.ensures) in
    ((let less = below.0 in omega arith), (within, rw e below.1))

pub returns-then-not-give-clause-solved : goal.returns-then-not-give-clause-solved
returns-then-not-give-clause-solved g t c =
    let r = g.met.G.ParityGame.ranged c.args.self.now.game.now in
    let e = c.attract.ensures.same.board ∙ (c.seed.ensures.same.board ∙ c.rounds.invariant.same.board) in
    step_over _ r c.args.colours c.args.bound c.if-colours-eq0.false _ c.requires _ _ _ c.rounds.invariant.round (omega arith) (omega arith) _ _
    (topped_there g t (goal.at.returns-then-not-give-clause-solved g t c).After-attract) (rw e at c.solve_region.ensures.solved) _
    (ap (λ ws p. get_or ws p 0) c.give.ensures.winners) (ap (λ ms p. get_or ms p 0) c.give.ensures.moves)
    (rw (c.solve_region.ensures.same.board ∙ e) at c.if-not-give.ensures.given)

pub rounds-smaller : goal.rounds-smaller
rounds-smaller g t c =
    let r = g.met.G.ParityGame.ranged c.args.self.now.game.now in
    let e = c.attract.ensures.same.board ∙ (c.seed.ensures.same.board ∙ c.rounds.invariant.same.board) in
    let f = c.solve_region.ensures.same.board ∙ e in
    step_less _ r c.args.colours c.args.bound c.if-colours-eq0.false _ c.requires _ _ _ c.rounds.invariant.round (omega arith) (omega arith) _ _
    (topped_there g t (goal.at.rounds-smaller g t c).After-attract) (rw e at c.solve_region.ensures.solved) _
    (ap (λ ws p. get_or ws p 0) c.give.ensures.winners) (ap (λ ms p. get_or ms p 0) c.give.ensures.moves)
    (rw f at c.if-not-give.ensures.given) _ (rw (c.give.ensures.same.board ∙ f) at c.attract-in-rounds.ensures.drawn)

pub rounds-preserved : goal.rounds-preserved
rounds-preserved g t c =
    let r = g.met.G.ParityGame.ranged c.args.self.now.game.now in
    let e = c.attract.ensures.same.board ∙ (c.seed.ensures.same.board ∙ c.rounds.invariant.same.board) in
    let f = c.solve_region.ensures.same.board ∙ e in
    record {
      same = search rules;
      round =
          step_again _ r c.args.colours c.args.bound c.if-colours-eq0.false _ c.requires _ _ _ c.rounds.invariant.round (omega arith) (omega arith) _ _
          (topped_there g t (goal.at.rounds-preserved g t c).After-attract) (rw e at c.solve_region.ensures.solved) _
          (ap (λ ws p. get_or ws p 0) c.give.ensures.winners) (ap (λ ms p. get_or ms p 0) c.give.ensures.moves)
          (rw f at c.if-not-give.ensures.given) _ (rw (c.give.ensures.same.board ∙ f) at c.attract-in-rounds.ensures.drawn);
    }

pub solve_region-requires-2 : goal.solve_region-requires-2
solve_region-requires-2 g t c κs within =
    let r = g.met.G.ParityGame.ranged c.args.self.now.game.now in
    let e = c.rounds.invariant.same.board in
    let f = c.seed.ensures.same.board ∙ e in
    let below = step_last_below _ r c.args.colours c.args.bound c.if-colours-eq0.false _ c.requires _ _ _ c.rounds.invariant.round (omega arith) (omega arith) _
    (rw e at c.rounds-test.ensures.seeded) _ (rw f at c.highest-below-2.ensures) in
    ((let less = below.0 in omega arith), (within, rw f below.1))

pub returns-clause-solved : goal.returns-clause-solved
returns-clause-solved g t c =
    let r = g.met.G.ParityGame.ranged c.args.self.now.game.now in
    let e = c.rounds.invariant.same.board in
    step_last (board_of c.args.self.now) r c.args.colours c.args.bound c.if-colours-eq0.false _ c.requires _ _ _ c.rounds.invariant.round (omega arith) (omega arith) _
    (rw e at c.rounds-test.ensures.seeded) (sheet_of c.solve_region-2.new.self) (rw (c.seed.ensures.same.board ∙ e) at c.solve_region-2.ensures.solved)
