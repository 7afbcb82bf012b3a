use Rattle.std.proofs.Common.{rules}
use Rattle.parity.proofs.Seeds.{seeded_next}
use Rattle.parity.proofs.workspace.Workspace.seed.Goals as goal

pub loop-position-preserved : goal.loop-position-preserved
loop-position-preserved g c =
    record {
      same = search rules;
      seeded = seeded_next _ _ _ _ _ _ _ _ _ _ c.loop-position.invariant.seeded (rw c.loop-position.invariant.same.board at c.seed_at-some.ensures.seeded);
    }
