-- The tables of an arena beside its rows, and the ranges that they keep.
use Rattle.std.proofs.Common.{◌≡◌, ℕ, suc, ◌<◌, ◌≤◌, length, get_or, Some, sym, ap, ◌∙◌, subst, arith}
use native.Mathlib.Decide.{dec_le}
use lib.ListN.{get_or-eq_default}
use Rattle.std.specs.List.{slice_get}
use Rattle.std.proofs.ByRecursion.{All-get_or}
use Rattle.std.proofs.lemmas.Option.{slice_get-get_or, get_or_from_slice_get}
use Rattle.chart.specs.Arena.{Arena, Vertex, size, vertex_at, Ranged, RangedVertex, RangedMove}
use Rattle.chart.specs.declared.parts.Move.{Move}
use Rattle.game.specs.Reading.{no_move, no_vertex, row, owner_of, colour_of, degree_of, target_of, cost_of}

module _ (a : Arena) (v : ℕ) where
  -- a vertex that is there
  module _ (x : Vertex) (e : vertex_at a v ≡ Some x) where
    pub row_is : row a v ≡ x
    row_is = get_or_from_slice_get a.vertices v x no_vertex e

    pub owner_is : owner_of a v ≡ x.owner
    unfolding owner_of
    owner_is = ap (λ y. y.owner) row_is

    pub colour_is : colour_of a v ≡ x.colour
    unfolding colour_of
    colour_is = ap (λ y. y.colour) row_is

    pub degree_is : degree_of a v ≡ length x.moves
    unfolding degree_of
    degree_is = ap (λ y. length y.moves) row_is

    -- a move that is there
    module _ (m : ℕ) (y : Move) (f : slice_get x.moves m ≡ Some y) where
      pub target_is : target_of a v m ≡ y.target
      unfolding target_of
      target_is = ap (λ r. (get_or r.moves m no_move).target) row_is ∙ ap (λ z. z.target) (get_or_from_slice_get x.moves m y no_move f)

      pub cost_is : cost_of a v m ≡ y.cost
      unfolding cost_of
      cost_is = ap (λ r. (get_or r.moves m no_move).cost) row_is ∙ ap (λ z. z.cost) (get_or_from_slice_get x.moves m y no_move f)

  pub row_past : size a ≤ v → row a v ≡ no_vertex
  row_past h = get_or-eq_default a.vertices no_vertex h

  pub vertex_there : v < size a → vertex_at a v ≡ Some (row a v)
  vertex_there h = slice_get-get_or a.vertices v no_vertex h

  -- only a vertex has moves
  pub moves_there : (m : ℕ) → m < degree_of a v → v < size a
  unfolding degree_of
  moves_there m h = elim (dec_le (suc v) (size a))
      [ yes k ↦ k | no k ↦ absurd (let e = row_past (omega arith) in let z : length (row a v).moves ≡ 0 = ap (λ y. length y.moves) e in omega arith) ]

-- the ranges hold of every entry of the tables
module _ (a : Arena) (r : Ranged a) (v : ℕ) where
  pub row_ranged : RangedVertex (size a) a.height (row a v)
  row_ranged = elim (dec_le (suc v) (size a)) [
    | yes k ↦ All-get_or (RangedVertex (size a) a.height) a.vertices v no_vertex k r.vertices
    | no k ↦ subst (RangedVertex (size a) a.height) (sym (row_past a v (omega arith))) (record { owner = omega arith; colour = omega arith; few = omega arith; moves = tt })
  ]

  pub owner_low : owner_of a v ≤ 1
  unfolding owner_of
  owner_low = row_ranged.owner

  pub owner_other : ¬ (owner_of a v ≡ 0) → owner_of a v ≡ 1
  owner_other h = let k = owner_low in omega arith

  pub colour_low : colour_of a v ≤ a.height
  unfolding colour_of
  colour_low = row_ranged.colour

  pub degree_low : degree_of a v ≤ 1024
  unfolding degree_of
  degree_low = row_ranged.few

  pub target_low : (m : ℕ) → m < degree_of a v → target_of a v m < size a
  unfolding degree_of target_of
  target_low m h = (All-get_or (RangedMove (size a)) (row a v).moves m no_move h row_ranged.moves).target

  pub cost_low : (m : ℕ) → cost_of a v m ≤ 10000
  unfolding cost_of
  cost_low m = elim (dec_le (suc m) (length (row a v).moves)) [
    | yes k ↦ (All-get_or (RangedMove (size a)) (row a v).moves m no_move k row_ranged.moves).cost
    | no k ↦ let e : get_or (row a v).moves m no_move ≡ no_move = get_or-eq_default (row a v).moves no_move (omega arith) in rw (ap (λ z. z.cost) e) (omega arith)
  ]
