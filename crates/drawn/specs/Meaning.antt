-- What a drawn chart means, and that its vertices are named by their numbers.
use Rattle.std.specs.Prelude.{ℕ, cond, List, take, Some, None, Option, nat_lt}
use Rattle.chart.specs.declared.parts.Move.{Move}
use Rattle.chart.specs.Arena.{Arena}
use Rattle.drawn.specs.declared.row.Row.{Row}
use Rattle.drawn.specs.declared.sheet.Drawn.{Drawn}
use Rattle.drawn.specs.Rows.{vertices_of}

-- the rows and the moves that stand in the arrays
abbrev pub rows : Drawn → List Row
rows d = take d.count d.rows

abbrev pub moves : Drawn → List Move
moves d = take d.used d.moves

abbrev pub sheet : Drawn → Arena
sheet d = record { height = 8; vertices = vertices_of (rows d) (moves d) }

-- a number that is a vertex of n
abbrev pub itself : ℕ → ℕ → Option ℕ
itself n v = cond (nat_lt v n) (Some v) None
