use Rattle.std.proofs.Common.{take}
use Rattle.std.specs.List.{flat_map}
use Rattle.drawn.specs.Meaning.{sheet}
use Rattle.text.specs.Lines.{spelt}
use Rattle.text.specs.Writing.{move_lines}
use Rattle.text.specs.Pages.{Puts}
use Rattle.text.proofs.writing.Page.moves.Given as goal

abbrev pub invariant-loop-vertex : goal.invariant-loop-vertex
invariant-loop-vertex l = Puts (flat_map spelt (move_lines 0 (take l.vertex (sheet l.chart).vertices))) l.fn.self l.self
