use Rattle.std.proofs.Common.{ℕ, ◌<◌, ◌≤◌}
use Rattle.parity.specs.Workspaces.{board_of, sheet_of}
use Rattle.parity.proofs.workspace.Workspace.stay.Given as goal

abbrev pub invariant-loop-number : goal.invariant-loop-number
invariant-loop-number g l = (k : ℕ) → k < l.number → ¬ ((sheet_of l.self).tag ((board_of l.self).game.target l.position k) ≤ l.mark)
