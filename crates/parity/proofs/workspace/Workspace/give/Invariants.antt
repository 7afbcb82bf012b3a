use Rattle.std.proofs.Common.{◌≡◌}
use Rattle.chart.specs.Players.{numbered}
use Rattle.parity.specs.Rounds.{Given}
use Rattle.parity.specs.Workspaces.{sheet_of, Same}
use Rattle.parity.proofs.workspace.Workspace.give.Given as goal

abbrev pub invariant-loop-position : goal.invariant-loop-position
invariant-loop-position g l =
    record {
      same : Same l.fn.self l.self;
      given : Given (numbered l.other) l.mark l.position (sheet_of l.fn.self).winner (sheet_of l.fn.self).tag (sheet_of l.self).tag l.some;
      winners : l.self.winners.now ≡ l.fn.self.winners.now;
      moves : l.self.moves.now ≡ l.fn.self.moves.now;
    }
