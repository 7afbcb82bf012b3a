use Rattle.std.proofs.Common.{ℕ, ◌<◌}
use Rattle.chart.proofs.Lowest.{Ends}
use Rattle.chart.proofs.dead_end.lowest_dead_end.Given as goal

abbrev pub invariant-loop-vertex : goal.invariant-loop-vertex
invariant-loop-vertex g l = (v : ℕ) → v < l.vertex → Ends (g.C.Chart.meaning l.chart).vertices v → ⊥
