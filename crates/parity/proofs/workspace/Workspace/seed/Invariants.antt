use Rattle.chart.specs.Players.{numbered}
use Rattle.parity.specs.Rounds.{Seeded}
use Rattle.parity.specs.Workspaces.{board_of, sheet_of, Same}
use Rattle.parity.proofs.workspace.Workspace.seed.Given as goal

abbrev pub invariant-loop-position : goal.invariant-loop-position
invariant-loop-position g l =
    record {
      same : Same l.fn.self l.self;
      seeded : Seeded (board_of l.fn.self).game l.colour (numbered l.attractor.player) l.attractor.mark l.position (sheet_of l.fn.self) (sheet_of l.self) l.some;
    }
