-- What stands in the arrays of a drawn chart, read as its vertices and moves.
use Rattle.std.specs.Prelude.{◌≡◌, ℕ, ◌+◌, ◌-◌, ◌<◌, ◌≤◌, List, length, take, drop, Some, None, Option, slice_index_or, refl}
use Rattle.std.proofs.Common.{sym, ap, ◌∙◌, inl, inr, arith, length-drop, length-take-le, get_or-take}
use Rattle.std.specs.Option.{option_map}
use Rattle.std.specs.List.{slice_get}
use Rattle.std.proofs.lemmas.Bool.{cases_lt}
use Rattle.std.proofs.lemmas.Option.{slice_get_within, slice_get-get_or, slice_get_past}
use Rattle.std.proofs.lemmas.List.{take-take}
use Rattle.std.proofs.lemmas.Slice.{between_is}
use Rattle.chart.specs.declared.parts.Move.{Move}
use Rattle.chart.specs.declared.parts.Player.TheVariants.{Controller}
use Rattle.chart.specs.Arena.{Vertex, vertex_at, move_at, and_then}
use Rattle.drawn.specs.declared.row.Row.{Row}
use Rattle.drawn.specs.declared.sheet.Drawn.{Drawn}
use Rattle.drawn.specs.Rows.{total}
use Rattle.drawn.specs.Rules.{move_count, degree_at, degree_or_none}
use Rattle.drawn.specs.Meaning.{rows, moves, sheet}
use Rattle.drawn.specs.Readings.{rows_length, moves_length, size_is}
use Rattle.drawn.proofs.LaidOut.{laid_end, laid_start}
use Rattle.drawn.proofs.Vertices.{vertex_with, count_vertices, nth_vertices, ends_within}

-- what an array of rows is read at past its end
abbrev pub no_row : Row
no_row = record { owner = Controller; colour = 0; start = 0; degree = 0 }

module _ (d : Drawn) where
  pub total_is : total (rows d) ≡ d.used
  total_is = omega (arith, laid_end 0 (rows d) d.used d.ordered)

  pub count_is : move_count (sheet d).vertices ≡ d.used
  count_is = count_vertices (rows d) (moves d) (omega (arith, total_is, moves_length d)) ∙ total_is

  -- the moves that a row speaks of, and its vertex
  abbrev pub its_moves : Row → List Move
  its_moves r = take r.degree (drop r.start (moves d))

  abbrev pub vertex_of : Row → Vertex
  vertex_of r = vertex_with r (its_moves r)

  pub row_is : (v : ℕ) → v < d.count → slice_get (rows d) v ≡ Some (slice_index_or d.rows v no_row)
  row_is v h = slice_get-get_or (rows d) v no_row (omega (arith, rows_length d)) ∙ ap Some (get_or-take d.count d.rows v no_row h)

  pub absent : (v : ℕ) → slice_get (rows d) v ≡ None → d.count ≤ v
  absent v none = elim (cases_lt v d.count) [
    | inl h ↦ let there = row_is v h in cc
    | inr h ↦ h
  ]

  pub past : (v : ℕ) → d.count ≤ v → vertex_at (sheet d) v ≡ None
  past v h = slice_get_past (sheet d).vertices v (omega (arith, size_is d))

  -- a row that is there
  module _ (v : ℕ) (r : Row) (is : slice_get (rows d) v ≡ Some r) where
    pub within : v < d.count
    within = omega (arith, slice_get_within (rows d) v r is, rows_length d)

    pub start_is : r.start ≡ total (take v (rows d))
    start_is = omega (arith, laid_start 0 (rows d) d.used v r d.ordered is)

    -- its moves lie among those that stand
    pub ends_in : r.start + r.degree ≤ d.used
    ends_in = omega (arith, start_is, ends_within (rows d) v r is, total_is)

    pub moves_are : length (its_moves r) ≡ r.degree
    moves_are = length-take-le r.degree (drop r.start (moves d)) (omega (arith, length-drop r.start (moves d), moves_length d, ends_in))

    -- read in the whole array
    pub its_moves_are : its_moves r ≡ take r.degree (drop r.start d.moves)
    its_moves_are =
        ap (take r.degree) (sym (between_is d.moves r.start d.used))
        ∙ take-take r.degree (d.used - r.start) (drop r.start d.moves) (omega (arith, ends_in))

  pub vertex_is : (v : ℕ) → vertex_at (sheet d) v ≡ option_map vertex_of (slice_get (rows d) v)
  vertex_is v = nth_vertices (rows d) (moves d) v ∙ by_row (slice_get (rows d) v) refl
    where
      by_row : (o : Option Row) → slice_get (rows d) v ≡ o → option_map (λ r. vertex_with r (take r.degree (drop (total (take v (rows d))) (moves d)))) o ≡ option_map vertex_of o
      by_row None e = refl
      by_row (Some r) e = ap (λ k. Some (vertex_with r (take r.degree (drop k (moves d))))) (sym (start_is v r e))

  pub degrees_are : (v : ℕ) → option_map (λ x. length x.moves) (vertex_at (sheet d) v) ≡ option_map (λ r. r.degree) (slice_get (rows d) v)
  degrees_are v = ap (option_map (λ x. length x.moves)) (vertex_is v) ∙ by_row (slice_get (rows d) v) refl
    where
      by_row : (o : Option Row) → slice_get (rows d) v ≡ o → option_map (λ x. length x.moves) (option_map vertex_of o) ≡ option_map (λ r. r.degree) o
      by_row None e = refl
      by_row (Some r) e = ap Some (moves_are v r e)

  pub degree_is : (v : ℕ) (r : Row) → slice_get (rows d) v ≡ Some r → degree_at (sheet d) v ≡ r.degree
  degree_is v r is = ap degree_or_none (vertex_is v ∙ ap (option_map vertex_of) is) ∙ moves_are v r is

  -- the moves of a vertex, read where they stand
  pub move_is : (v : ℕ) (r : Row) → slice_get (rows d) v ≡ Some r → (i : ℕ) → move_at (sheet d) v i ≡ slice_get (its_moves r) i
  move_is v r is i = ap (λ o. and_then o (λ x. slice_get x.moves i)) (vertex_is v ∙ ap (option_map vertex_of) is)

  -- past the last move of a vertex, and at a vertex that is not there
  pub move_absent : (v : ℕ) (r : Row) → slice_get (rows d) v ≡ Some r → (i : ℕ) → r.degree ≤ i → move_at (sheet d) v i ≡ None
  move_absent v r is i le = move_is v r is i ∙ slice_get_past (its_moves r) i (omega (arith, moves_are v r is))

  pub no_moves : (v : ℕ) → slice_get (rows d) v ≡ None → (i : ℕ) → move_at (sheet d) v i ≡ None
  no_moves v none i = ap (λ o. and_then o (λ x. slice_get x.moves i)) (vertex_is v ∙ ap (option_map vertex_of) none)
