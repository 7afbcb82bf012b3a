use Rattle.std.proofs.Common.{take}
use Rattle.std.specs.List.{flat_map}
use Rattle.drawn.specs.Meaning.{sheet}
use Rattle.text.specs.Lines.{spelt}
use Rattle.text.specs.Writing.{vertex_line}
use Rattle.text.specs.Pages.{Puts}
use Rattle.text.proofs.writing.Page.vertices.Given as goal

abbrev pub invariant-loop-vertex : goal.invariant-loop-vertex
invariant-loop-vertex l = Puts (flat_map (λ v. spelt (vertex_line v)) (take l.vertex (sheet l.chart).vertices)) l.fn.self l.self
