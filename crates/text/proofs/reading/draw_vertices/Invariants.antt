use Rattle.std.proofs.Common.{◌+◌, ◌-◌}
use Rattle.chart.specs.Arena.{Arena}
use Rattle.chart.specs.Refusals.{Outcome}
use Rattle.drawn.specs.Meaning.{sheet}
use Rattle.text.specs.Reading.{Reads, vertex_due}
use Rattle.text.proofs.reading.draw_vertices.Given as goal

abbrev pub invariant-loop-here : goal.invariant-loop-here
invariant-loop-here l = (end : Outcome Arena) → Reads end (sheet l.chart) (vertex_due (l.line + l.count - l.here-counter)) l.here-counter l.rest → Reads end (sheet l.initial.chart) (vertex_due l.count) l.line l.initial.rest
