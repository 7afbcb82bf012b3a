-- What a chart means: a finite arena, with an owner and a colour at each vertex and a cost at each
-- move. Everything else in the product is worked out from this value alone.
use Rattle.std.specs.Prelude.{◌≡◌, ℕ, ◌%◌, ◌<◌, ◌≤◌, List, length, Some, None, Option}
use Rattle.std.specs.List.{AllByRecursion, slice_get}
use Rattle.chart.specs.declared.parts.Move.{Move}

-- A vertex: its owner (0 the controller, 1 the harbour), its colour and its moves in their order.
pub record Vertex : Type 0 where
  pub owner : ℕ
  pub colour : ℕ
  pub moves : List Move

-- The vertices stand in the order of their numbers, from 0.
pub record Arena : Type 0 where
  pub height : ℕ
  pub vertices : List Vertex

abbrev pub size : Arena → ℕ
size a = length a.vertices

abbrev pub vertex_at : Arena → ℕ → Option Vertex
vertex_at a v = slice_get a.vertices v

abbrev pub and_then : {A B : Type 0} → Option A → (A → Option B) → Option B
and_then None f = None
and_then (Some x) f = f x

-- The move of a number at a vertex, if both are there.
abbrev pub move_at : Arena → ℕ → ℕ → Option Move
move_at a v i = and_then (vertex_at a v) (λ x. slice_get x.moves i)

-- A move ends among the n vertices, and costs at most 10,000 metres.
pub record RangedMove (n : ℕ) (m : Move) : Type 0 where
  pub target : m.target < n
  pub cost : m.cost ≤ 10000

pub record RangedVertex (n h : ℕ) (v : Vertex) : Type 0 where
  pub owner : v.owner ≤ 1
  pub colour : v.colour ≤ h
  pub few : length v.moves ≤ 1024
  pub moves : AllByRecursion (RangedMove n) v.moves

-- The ranges that every chart keeps to.
pub record Ranged (a : Arena) : Type 0 where
  pub few : size a ≤ 4096
  pub low : a.height ≤ 30
  pub even : a.height % 2 ≡ 0
  pub vertices : AllByRecursion (RangedVertex (size a) a.height) a.vertices
