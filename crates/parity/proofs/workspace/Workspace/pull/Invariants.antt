use Rattle.std.proofs.Common.{◌≡◌, ℕ, ◌<◌, ◌≤◌}
use Rattle.parity.specs.Workspaces.{board_of, sheet_of}
use Rattle.parity.proofs.workspace.Workspace.pull.Given as goal

abbrev pub invariant-loop-ours : goal.invariant-loop-ours
invariant-loop-ours g l = (k : ℕ) → k < l.ours → ¬ ((sheet_of l.self).tag ((board_of l.self).game.target l.position k) ≡ l.attractor.mark)

abbrev pub invariant-loop-theirs : goal.invariant-loop-theirs
invariant-loop-theirs g l = (k : ℕ) → k < l.theirs → l.attractor.mark ≤ (sheet_of l.self).tag ((board_of l.self).game.target l.position k)
