-- An arena read as tables over all numbers. Past the last vertex, and past the last move of a
-- vertex, each table has 0.
use Rattle.std.specs.Prelude.{ℕ, [], length, get_or, slice_index_or}
use Rattle.chart.specs.Arena.{Arena, Vertex}
use Rattle.chart.specs.declared.parts.Move.{Move}
use Rattle.walks.specs.Games.{Game}

-- What is read past the last move, and past the last vertex.
abbrev pub no_move : Move
no_move = record { target = 0; cost = 0 }

abbrev pub no_vertex : Vertex
no_vertex = record { owner = 0; colour = 0; moves = [] }

-- The vertex of a number.
abbrev pub row : Arena → ℕ → Vertex
row a v = slice_index_or a.vertices v no_vertex

-- Who decides at v: 0 the controller, 1 the harbour.
unfoldable pub owner_of : Arena → ℕ → ℕ
owner_of a v = (row a v).owner

-- The colour of v.
unfoldable pub colour_of : Arena → ℕ → ℕ
colour_of a v = (row a v).colour

-- The number of moves that leave v.
unfoldable pub degree_of : Arena → ℕ → ℕ
degree_of a v = length (row a v).moves

-- Where move m of v arrives, and what it costs.
unfoldable pub target_of : Arena → ℕ → ℕ → ℕ
target_of a v m = (get_or (row a v).moves m no_move).target

unfoldable pub cost_of : Arena → ℕ → ℕ → ℕ
cost_of a v m = (get_or (row a v).moves m no_move).cost

-- The parity game on an arena: costs are left out.
abbrev pub game_of : Arena → Game
game_of a = record { owner = owner_of a; colour = colour_of a; degree = degree_of a; target = target_of a }
