use Rattle.std.proofs.Common.{◌+◌}
use Rattle.chart.specs.Players.{numbered}
use Rattle.parity.specs.Attractors.{outside}
use Rattle.parity.specs.Solving.{Round}
use Rattle.parity.specs.Workspaces.{board_of, sheet_of, Same}
use Rattle.parity.proofs.workspace.Workspace.+solve_region.Given as goal

abbrev pub decreases-solve_region : goal.decreases-solve_region
decreases-solve_region g l = l.colours

abbrev pub invariant-rounds : goal.invariant-rounds
invariant-rounds g l =
    record {
      same : Same l.fn.self l.self;
      round : Round (board_of l.fn.self) (numbered l.other) l.mark l.bound (sheet_of l.fn.self) (sheet_of l.self);
    }

abbrev pub decreases-rounds : goal.decreases-rounds
decreases-rounds g l = outside (l.mark + 1) (sheet_of l.self).tag (board_of l.fn.self).size
