-- The waiting chart: a chart whose positions remember the highest colour that waits below. Its
-- costs are 0: a cost above 0 below is a toll, a position of its own on the way.
use Rattle.std.specs.Prelude.{ℕ, ◌+◌, ◌*◌, ◌/◌, ◌%◌, max, Bool, cond, ◌&&◌, List, [], ◌∷◌, map, ◌==◌, nat_le}
use Rattle.std.specs.List.{range_with_len}
use Rattle.chart.specs.Arena.{Arena, Vertex, size}
use Rattle.chart.specs.declared.parts.Move.{Move}
use Rattle.game.specs.Reading.{row, owner_of, colour_of}

-- A level is a number from 0 to half the height: level 0 says that nothing waits, level l that the
-- highest waiting colour is 2 l − 1. This is how many levels there are.
abbrev pub levels : Arena → ℕ
levels a = a.height / 2 + 1

-- The level after arriving at a colour: an odd one raises it, an even one at least twice the level
-- answers all that waits.
abbrev pub arrive : ℕ → ℕ → ℕ
arrive level colour = cond (colour % 2 == 1) (max level ((colour + 1) / 2)) (cond (nat_le (2 * level) colour) 0 level)

-- The stage at which a move of that cost arrives: 1, a toll, if it costs anything.
abbrev pub toll : ℕ → ℕ
toll cost = cond (cost == 0) 0 1

-- The number of positions: one for each vertex, level and stage.
abbrev pub positions : Arena → ℕ
positions a = size a * levels a * 2

-- The number of a position.
abbrev pub place : Arena → ℕ → ℕ → ℕ → ℕ
place a vertex level stage = (vertex * levels a + level) * 2 + stage

-- The vertex, the level and the stage of a position, by its number.
abbrev pub vertex_in : Arena → ℕ → ℕ
vertex_in a p = p / 2 / levels a

abbrev pub level_in : Arena → ℕ → ℕ
level_in a p = p / 2 % levels a

abbrev pub stage_in : ℕ → ℕ
stage_in p = p % 2

-- The colour of a position, over a chart of that height and a vertex of that colour: the highest of
-- all where nothing waits, an odd one above the chart's own at a toll while something waits, else
-- the vertex's.
abbrev pub tint : ℕ → ℕ → ℕ → ℕ → ℕ
tint height colour level stage =
    cond (stage == 0) (cond (level == 0) (height + 2) colour) (cond (level == 0) 0 (height + 1))

-- What a move below becomes at a level: it arrives at its target with the level after arriving there.
abbrev pub lifted : Arena → ℕ → Move → Move
lifted a level m =
    record { target = place a m.target (arrive level (colour_of a m.target)) (toll m.cost); cost = 0 }

-- The one move of a toll, to the same vertex and level.
abbrev pub paying : Arena → ℕ → Move
paying a p = record { target = place a (vertex_in a p) (level_in a p) 0; cost = 0 }

-- The moves of a position: those of its vertex, lifted, or at a toll the one that pays it.
abbrev pub moves_in : Arena → ℕ → List Move
moves_in a p = cond (stage_in p == 0) (map (lifted a (level_in a p)) (row a (vertex_in a p)).moves) (paying a p ∷ [])

-- The colour of a position, by its number.
abbrev pub colour_in : Arena → ℕ → ℕ
colour_in a p = tint a.height (colour_of a (vertex_in a p)) (level_in a p) (stage_in p)

-- The position of a number, as a vertex of the waiting chart.
abbrev pub position : Arena → ℕ → Vertex
position a p = record { owner = owner_of a (vertex_in a p); colour = colour_in a p; moves = moves_in a p }

-- The waiting chart keeps within the ranges of a chart.
abbrev pub may_be_laid : Arena → Bool
may_be_laid a = nat_le (positions a) 4096 && nat_le a.height 28

-- The waiting chart over a chart; where it may not be laid, the chart without vertices.
unfoldable pub waiting : Arena → Arena
waiting a =
    cond (may_be_laid a)
    (record { height = a.height + 2; vertices = map (position a) (range_with_len 0 (positions a)) })
    (record { height = 0; vertices = [] })

-- The level with which a voyage from v begins, and the position at which it does.
abbrev pub first_level : Arena → ℕ → ℕ
first_level a v = arrive 0 (colour_of a v)

abbrev pub first : Arena → ℕ → ℕ
first a v = place a v (first_level a v) 0
