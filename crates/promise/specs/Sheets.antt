-- Lists of calls on a drawn chart, the chart that they leave, and the plain sheet: what is drawn, by the calls' arguments alone.
use Rattle.std.specs.Prelude.{ℕ, Bool, false, cond, ◌&&◌, List, [], ◌∷◌, ◌++◌, length, nat_le, nat_lt, slice_index_or}
use Rattle.chart.specs.Arena.{Arena, Vertex}
use Rattle.game.specs.Reading.{no_vertex}
use Rattle.drawn.specs.Rules.{placed, joined, struck, adjusted, with_move, without_move, move_count}
use Rattle.promise.specs.Tables.{Tables}

-- A call on a drawn chart. solve takes tables and room for working memory, check a bound besides; any tables will do.
pub data Call : Type 0 where
  place : (owner colour : ℕ) → Call
  join : (from to cost : ℕ) → Call
  strike : (vertex number : ℕ) → Call
  solve : (tables : Tables) (room : ℕ) → Call
  check : (tables : Tables) (bound room : ℕ) → Call

-- The chart that a call leaves, by what the call itself promises; and a list of calls, one after the other.
abbrev pub after_call : Arena → Call → Arena
after_call a (place owner colour) = placed a owner colour
after_call a (join from to cost) = joined a from to cost
after_call a (strike vertex number) = struck a vertex number
after_call a (solve tables room) = a
after_call a (check tables bound room) = a

abbrev pub after_calls : Arena → List Call → Arena
after_calls a [] = a
after_calls a (c ∷ cs) = after_calls (after_call a c) cs

-- A plain sheet: vertices with owner, colour and moves in order.
abbrev pub Sheet : Type 0
Sheet = List Vertex

-- Whether a sheet takes a call that draws: an owner up to 1, a colour up to 8 and one of 128 vertices; two vertices that are there,
-- a cost up to 10,000 and one of 1,024 moves; a vertex that is there and one of its moves.
abbrev pub takes : Sheet → Call → Bool
takes s (place owner colour) = nat_le owner 1 && nat_le colour 8 && nat_lt (length s) 128
takes s (join from to cost) = nat_lt from (length s) && nat_lt to (length s) && nat_le cost 10000 && nat_lt (move_count s) 1024
takes s (strike vertex number) = nat_lt vertex (length s) && nat_lt number (length (slice_index_or s vertex no_vertex).moves)
takes s (solve tables room) = false
takes s (check tables bound room) = false

-- The sheet with the call drawn on it: a vertex without moves behind the others, a last move at from, one move taken out.
abbrev pub drawn_on : Sheet → Call → Sheet
drawn_on s (place owner colour) = s ++ record { owner = owner; colour = colour; moves = [] } ∷ []
drawn_on s (join from to cost) = adjusted (with_move (record { target = to; cost = cost })) s from
drawn_on s (strike vertex number) = adjusted (without_move number) s vertex
drawn_on s (solve tables room) = s
drawn_on s (check tables bound room) = s

-- The sheet after a list of calls. A call that it does not take leaves it as it is.
abbrev pub sheet_after : Sheet → List Call → Sheet
sheet_after s [] = s
sheet_after s (c ∷ cs) = sheet_after (cond (takes s c) (drawn_on s c) s) cs

-- The plain sheet of a list of calls, with nothing drawn at first, as a chart: always of height 8.
abbrev pub plain_sheet : List Call → Arena
plain_sheet cs = record { height = 8; vertices = sheet_after [] cs }
