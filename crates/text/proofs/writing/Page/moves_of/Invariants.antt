use Rattle.std.proofs.Common.{take}
use Rattle.std.specs.List.{flat_map}
use Rattle.drawn.specs.Meaning.{sheet}
use Rattle.text.specs.Lines.{spelt}
use Rattle.text.specs.Writing.{move_line, vertex_or_none}
use Rattle.text.specs.Pages.{Puts}
use Rattle.text.proofs.writing.Page.moves_of.Given as goal

abbrev pub invariant-loop-number : goal.invariant-loop-number
invariant-loop-number l = Puts (flat_map (λ m. spelt (move_line l.vertex m)) (take l.number (vertex_or_none (sheet l.chart) l.vertex).moves)) l.fn.self l.self
