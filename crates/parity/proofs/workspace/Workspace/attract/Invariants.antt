use Rattle.chart.specs.Players.{numbered}
use Rattle.parity.specs.Attractors.{Chased, outside}
use Rattle.parity.specs.Workspaces.{board_of, sheet_of, Same}
use Rattle.parity.proofs.workspace.Workspace.attract.Given as goal

abbrev pub invariant-loop-attractor : goal.invariant-loop-attractor
invariant-loop-attractor g l =
    record {
      same : Same l.fn.self l.self;
      chased : Chased (board_of l.fn.self) (numbered l.attractor.player) l.attractor.mark (sheet_of l.fn.self) (sheet_of l.self);
    }

abbrev pub decreases-loop-attractor : goal.decreases-loop-attractor
decreases-loop-attractor g l = outside l.attractor.mark (sheet_of l.self).tag (board_of l.self).size
