use Rattle.parity.specs.Rounds.{Highest}
use Rattle.parity.specs.Workspaces.{board_of, sheet_of}
use Rattle.parity.proofs.workspace.Workspace.highest.Given as goal

abbrev pub invariant-loop-position : goal.invariant-loop-position
invariant-loop-position g l = Highest (board_of l.self).game l.bound l.position (sheet_of l.self).tag l.least
