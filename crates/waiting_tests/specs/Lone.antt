-- A chart of one vertex, whose one move leads back to it.
use Rattle.std.specs.Prelude.{ℕ, cond, [], ◌∷◌, Some, None, Option, ◌==◌}
use Rattle.chart.specs.Arena.{Arena}

-- The vertex is the harbour's and has the highest colour of its chart; its move costs 1.
abbrev pub lone : ℕ → Arena
lone height = record { height = height; vertices = record { owner = 1; colour = height; moves = record { target = 0; cost = 1 } ∷ [] } ∷ [] }

-- The vertex is named 0.
abbrev pub naught : ℕ → Option ℕ
naught v = cond (v == 0) (Some 0) None
