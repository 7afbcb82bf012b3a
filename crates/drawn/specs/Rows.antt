-- How a drawn chart lies in its two arrays: a row for each vertex, and the moves of all vertices one
-- behind the other, in the order of the vertices.
use Rattle.std.specs.Prelude.{ℕ, ◌+◌, Bool, ◌&&◌, List, [], ◌∷◌, take, drop, ◌==◌, nat_le, nat_lt}
use Rattle.chart.specs.declared.parts.Move.{Move}
use Rattle.chart.specs.Arena.{Vertex}
use Rattle.chart.specs.Players.{numbered}
use Rattle.drawn.specs.declared.row.Row.{Row}

-- the vertices: each takes as many moves off the front as its row says
abbrev pub vertices_of : List Row → List Move → List Vertex
vertices_of [] ms = []
vertices_of (r ∷ rs) ms = record { owner = numbered r.owner; colour = r.colour; moves = take r.degree ms } ∷ vertices_of rs (drop r.degree ms)

-- how many moves the rows have together
abbrev pub total : List Row → ℕ
total [] = 0
total (r ∷ rs) = r.degree + total rs

abbrev pub with_start : ℕ → Row → Row
with_start k r = record { owner = r.owner; colour = r.colour; start = k; degree = r.degree }

abbrev pub with_degree : ℕ → Row → Row
with_degree k r = record { owner = r.owner; colour = r.colour; start = r.start; degree = k }

-- the rows with their moves one behind the other from k on
abbrev pub laid_out : ℕ → List Row → List Row
laid_out k [] = []
laid_out k (r ∷ rs) = with_start k r ∷ laid_out (k + r.degree) rs

-- the moves of the rows lie one behind the other from k up to e
abbrev pub laid : ℕ → List Row → ℕ → Bool
laid k [] e = k == e
laid k (r ∷ rs) e = r.start == k && laid (k + r.degree) rs e

abbrev pub row_ranged : Row → Bool
row_ranged r = nat_le r.colour 8

abbrev pub move_ranged : ℕ → Move → Bool
move_ranged n m = nat_lt m.target n && nat_le m.cost 10000
