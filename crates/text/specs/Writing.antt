-- The one text of a chart.
use Rattle.std.specs.Prelude.{◌≡◌, ℕ, suc, ◌≤◌, cond, List, [], ◌∷◌, ◌++◌, map, length, drop, nat_le, slice_index_or}
use Rattle.std.specs.List.{flat_map}
use Rattle.chart.specs.declared.parts.Move.{Move}
use Rattle.chart.specs.Arena.{Arena, Vertex, size}
use Rattle.chart.specs.Refusals.{Outcome, done, refused}
use Rattle.drawn.specs.Rules.{move_count}
use Rattle.text.specs.Lines.{Line, vertices, vertex, moves, move, spelt}

abbrev pub vertex_line : Vertex → Line
vertex_line v = vertex v.owner v.colour

abbrev pub move_line : ℕ → Move → Line
move_line from m = move from m.target m.cost

-- the moves of the vertices, which are numbered from k on
abbrev pub move_lines : ℕ → List Vertex → List Line
move_lines k [] = []
move_lines k (v ∷ vs) = map (move_line k) v.moves ++ move_lines (suc k) vs

abbrev pub lines_of : Arena → List Line
lines_of a = vertices (size a) ∷ (map vertex_line a.vertices ++ (moves (move_count a.vertices) ∷ move_lines 0 a.vertices))

abbrev pub text_of : Arena → List ℕ
text_of a = flat_map spelt (lines_of a)

-- The vertex of a number, and a move of it; one without colour, moves, target or cost past the ends.
abbrev pub vertex_or_none : Arena → ℕ → Vertex
vertex_or_none a v = slice_index_or a.vertices v (record { owner = 0; colour = 0; moves = [] })

abbrev pub move_or_none : Arena → ℕ → ℕ → Move
move_or_none a v i = slice_index_or (vertex_or_none a v).moves i (record { target = 0; cost = 0 })

-- What write answers: how many bytes the text has, or refused where the room is less.
abbrev pub write_outcome : Arena → ℕ → Outcome ℕ
write_outcome a room = cond (nat_le (length (text_of a)) room) (done (length (text_of a))) (refused 24 0)

-- What the bytes are then: the text and what stood behind it; as they stood where write refuses.
abbrev pub written : Arena → List ℕ → List ℕ
written a bytes = cond (nat_le (length (text_of a)) (length bytes)) (text_of a ++ drop (length (text_of a)) bytes) bytes

-- The bytes hold s in front, and behind it what they held, if it fits; at is where s ends.
pub record Holds (before after : List ℕ) (at : ℕ) (s : List ℕ) : Type 0 where
  pub at_end : at ≡ length s
  pub same_length : length after ≡ length before
  pub front : length s ≤ length before → after ≡ s ++ drop (length s) before

-- Some bytes more: whatever stood in front of `at`, they stand behind it now, if they fit.
abbrev pub Adds : List ℕ → List ℕ → ℕ → List ℕ → ℕ → Type 0
Adds bytes entry at exit end = (before s : List ℕ) → Holds before entry at s → Holds before exit end (s ++ bytes)
