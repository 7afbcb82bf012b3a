use Rattle.chart.specs.Players.{numbered}
use Rattle.parity.specs.Attractors.{Chased}
use Rattle.parity.specs.Workspaces.{board_of, sheet_of, Same}
use Rattle.parity.proofs.workspace.Workspace.follow.Given as goal

abbrev pub invariant-loop-place : goal.invariant-loop-place
invariant-loop-place g l =
    record {
      same : Same l.fn.self l.self;
      chased : Chased (board_of l.fn.self) (numbered l.attractor.player) l.attractor.mark (sheet_of l.fn.self) (sheet_of l.self);
    }
