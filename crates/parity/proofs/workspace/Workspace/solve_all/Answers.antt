use Rattle.std.proofs.Common.{refl, arith}
use Rattle.parity.proofs.Settling.{whole_settled}
use Rattle.parity.proofs.workspace.Workspace.solve_all.Goals as goal

pub returns-clause-settled : goal.returns-clause-settled
returns-clause-settled g c =
    let n = c.args.self.now.sized.tags in
    whole_settled _ c.highest-colours.result _ (λ p lt. c.fill.ensures.clones p 0 (omega arith) refl) c.highest-colours.ensures _ _ _ c.solve_region.ensures.solved
