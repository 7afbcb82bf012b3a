use Rattle.std.proofs.Common.{◌+◌, ◌-◌}
use Rattle.chart.specs.Arena.{Arena}
use Rattle.chart.specs.Refusals.{Outcome}
use Rattle.drawn.specs.Meaning.{sheet}
use Rattle.text.specs.Reading.{Reads, move_due}
use Rattle.text.proofs.reading.draw_moves.Given as goal

abbrev pub invariant-loop-here : goal.invariant-loop-here
invariant-loop-here l = (end : Outcome Arena) → Reads end (sheet l.chart) (move_due (l.line + l.count - l.here-counter) l.low) l.here-counter l.rest → Reads end (sheet l.initial.chart) (move_due l.count 0) l.line l.initial.rest
