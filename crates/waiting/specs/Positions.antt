-- Positions of the waiting chart, by number and by name.
use Rattle.std.specs.Prelude.{ℕ, cond, ◌&&◌, Some, None, Option, nat_lt}
use Rattle.std.specs.Option.{option_map}
use Rattle.chart.specs.Arena.{Arena, size, and_then}
use Rattle.game.specs.Waiting.{levels, positions, place, vertex_in, level_in, stage_in, may_be_laid, first}
use Rattle.waiting.specs.declared.names.Position.{Position}

-- The vertex, the level and the stage of the position of a number, if there is one.
abbrev pub located : Arena → ℕ → Option (Position ℕ)
located a p = cond (may_be_laid a && nat_lt p (positions a)) (Some (record { below = vertex_in a p; level = level_in a p; stage = stage_in p })) None

-- The number of the position of a vertex, a level and a stage, if there is one.
abbrev pub number_of : Arena → Position ℕ → Option ℕ
number_of a x = cond (may_be_laid a && (nat_lt x.below (size a) && (nat_lt x.level (levels a) && nat_lt x.stage 2))) (Some (place a x.below x.level x.stage)) None

-- The number of a vertex's first position, if there is one.
abbrev pub first_of : Arena → ℕ → Option ℕ
first_of a v = cond (may_be_laid a && nat_lt v (size a)) (Some (first a v)) None

-- The same level and stage, with another word for the vertex.
abbrev pub renamed : {N M : Type 0} → Position N → M → Position M
renamed x y = record { below = y; level = x.level; stage = x.stage }

-- A position's name: the name below, with its level and its stage.
abbrev pub naming_over : {N : Type 0} → Arena → (ℕ → Option N) → ℕ → Option (Position N)
naming_over a naming p = and_then (located a p) (λ x. option_map (renamed x) (naming x.below))

-- The position of a name: the vertex of the name below, with the level and the stage of the name.
abbrev pub finding_over : {N : Type 0} → Arena → (N → Option ℕ) → Position N → Option ℕ
finding_over a finding x = and_then (finding x.below) (λ v. number_of a (renamed x v))
