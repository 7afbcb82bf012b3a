-- What a chart answers, beside the tables of its arena.
use Rattle.std.proofs.Common.{◌≡◌, ℕ, ◌<◌, ◌≤◌, List, length, Some, None, Option, sym, refl, ap, ◌∙◌, arith}
use native.Mathlib.Decide.{dec_le}
use Rattle.std.specs.Option.{option_map, unwrap_or}
use Rattle.std.specs.List.{slice_get}
use Rattle.std.proofs.lemmas.Option.{slice_get-get_or, unwrap_or-slice_get, slice_get_within}
use Rattle.chart.specs.Arena.{Arena, Vertex, vertex_at, move_at, and_then}
use Rattle.chart.specs.declared.parts.Move.{Move}
use Rattle.chart.specs.declared.parts.Player.{Player}
use Rattle.chart.specs.declared.parts.Player.TheVariants.{Controller}
use Rattle.chart.specs.Players.{numbered}
use Rattle.game.specs.Reading.{no_move, no_vertex, row, owner_of, colour_of, degree_of, target_of, cost_of}
use Rattle.game.proofs.Readings.{row_is, row_past, degree_is, target_is, cost_is}

nth_none : {A : Type 0} (xs : List A) (i : ℕ) (d : A) → slice_get xs i ≡ None → length xs ≤ i
nth_none xs i d e = elim (dec_le (length xs) i) [
  | yes h ↦ h
  | no h ↦ let k = slice_get-get_or xs i d (omega arith) in cc
]

module _ (a : Arena) (v : ℕ) where
  read : {A : Type 0} (f : Vertex → A) → f (row a v) ≡ unwrap_or (option_map f (vertex_at a v)) (f no_vertex)
  read f = sym (ap f (unwrap_or-slice_get a.vertices v no_vertex)) ∙ go (vertex_at a v)
    where
      go : (o : Option Vertex) → f (unwrap_or o no_vertex) ≡ unwrap_or (option_map f o) (f no_vertex)
      go None = refl
      go (Some x) = refl

  pub colour_read : colour_of a v ≡ unwrap_or (option_map (λ x. x.colour) (vertex_at a v)) 0
  unfolding colour_of
  colour_read = read (λ x. x.colour)

  pub owner_read : (o : Option Player) → option_map numbered o ≡ option_map (λ x. x.owner) (vertex_at a v) → numbered (unwrap_or o Controller) ≡ owner_of a v
  unfolding owner_of
  owner_read o e = go o ∙ (ap (λ p. unwrap_or p 0) e ∙ sym (read (λ x. x.owner)))
    where
      go : (p : Option Player) → numbered (unwrap_or p Controller) ≡ unwrap_or (option_map numbered p) 0
      go None = refl
      go (Some y) = refl

module _ (a : Arena) (v m : ℕ) where
  absent : (o : Option Vertex) → vertex_at a v ≡ o → None ≡ and_then o (λ x. slice_get x.moves m) → length (row a v).moves ≤ m
  absent None e h = let k = ap (λ x. length x.moves) (row_past a v (nth_none a.vertices v no_vertex e)) in omega arith
  absent (Some x) e h = let k = ap (λ x. length x.moves) (row_is a v x e) in let l = nth_none x.moves m no_move (sym h) in omega arith

  pub move_none : None ≡ move_at a v m → degree_of a v ≤ m
  unfolding degree_of
  move_none e = absent _ refl e

  -- a move that the chart answers
  pub record Moves (y : Move) : Type 0 where
    pub there : m < degree_of a v
    pub target : y.target ≡ target_of a v m
    pub cost : y.cost ≡ cost_of a v m

  present : (y : Move) (o : Option Vertex) → vertex_at a v ≡ o → Some y ≡ and_then o (λ x. slice_get x.moves m) → Moves y
  present y None e h = cc
  present y (Some x) e h = record {
    there = (let k = degree_is a v x e in let l = slice_get_within x.moves m y (sym h) in omega arith);
    target = sym (target_is a v x e m y (sym h));
    cost = sym (cost_is a v x e m y (sym h));
  }

  pub move_some : (y : Move) → Some y ≡ move_at a v m → Moves y
  move_some y e = present y _ refl e
