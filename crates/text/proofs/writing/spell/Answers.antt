use Rattle.std.proofs.Common.{rules, refl}
use Rattle.drawn.specs.Meaning.{sheet}
use Rattle.drawn.specs.Readings.{sheet_ranged}
use Rattle.text.specs.Writing.{Adds, text_of}
use Rattle.text.proofs.Lengths.{text_put}
use Rattle.text.proofs.writing.spell.Goals as goal

pub returns : goal.returns
returns c =
    let d = c.args.chart.now in
    let text : Adds (text_of (sheet d)) c.args.out.now 0 c.moves.new.self.out.now c.moves.new.self.at =
    text_put (sheet d) (sheet_ranged d) _ _ _ _ _ refl (rw c.size.ensures at c.line.ensures) c.vertices.ensures (rw c.move_count.ensures at c.line-2.ensures) c.moves.ensures in
    search rules
