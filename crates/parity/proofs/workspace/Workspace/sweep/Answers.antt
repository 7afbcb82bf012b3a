use Rattle.std.proofs.Common.{arith, rules}
use Rattle.parity.proofs.Sweeps.{swept_next}
use Rattle.parity.proofs.workspace.Workspace.sweep.Goals as goal

pub loop-place-preserved : goal.loop-place-preserved
loop-place-preserved g c =
    record {
      same = search rules;
      swept =
          swept_next _ _ _ _ _ _ _ _ _ _ _ c.loop-place.invariant.swept (rw c.loop-place.invariant.same.board at c.draw_in-grew.ensures.tried)
          (rw c.args.self.now.sized.tags at c.turn.ensures) (omega arith);
    }
