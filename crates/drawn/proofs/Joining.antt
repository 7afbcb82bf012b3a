-- What a move more does to a drawn chart.
use Rattle.std.proofs.Common.{◌≡◌, ℕ, ◌+◌, ◌<◌, ◌≤◌, true, List, Some, ap, ◌∙◌, ap₂, arith}
use Rattle.std.specs.Bool.{IsTrue}
use Rattle.std.specs.List.{All, insert, slice_get}
use Rattle.chart.specs.declared.parts.Move.{Move}
use Rattle.chart.specs.Arena.{Arena}
use Rattle.drawn.specs.declared.row.Row.{Row}
use Rattle.drawn.specs.declared.sheet.Drawn.{Drawn}
use Rattle.drawn.specs.Rows.{laid, laid_out, row_ranged, move_ranged, total, vertices_of, with_degree}
use Rattle.drawn.specs.Rules.{adjusted, with_adjusted, with_move}
use Rattle.drawn.specs.Meaning.{rows, moves, sheet}
use Rattle.drawn.specs.Readings.{moves_length}
use Rattle.drawn.proofs.LaidOut.{laid_out_laid, total_resized}
use Rattle.drawn.proofs.Vertices.{vertices_laid_out, vertices_joined}
use Rattle.drawn.proofs.Ranges.{all_inserted, all_adjusted, tinted_laid_out, move_ranged_is}
use Rattle.drawn.proofs.Standing.{start_is, total_is}

module _ (d : Drawn) (from : ℕ) (row : Row) (at : slice_get (rows d) from ≡ Some row) where
  abbrev grown : List Row
  grown = adjusted (with_degree (row.degree + 1)) (rows d) from

  pub grown_total : total grown ≡ d.used + 1
  grown_total = omega (arith, total_resized (rows d) from row (row.degree + 1) at, total_is d)

  module _ (new_rows : List Row) (is : new_rows ≡ laid_out 0 grown) where
    pub join_ordered : laid 0 new_rows (d.used + 1) ≡ true
    join_ordered = let e : d.used + 1 ≡ 0 + total grown = omega (arith, grown_total) in ap₂ (laid 0) is e ∙ laid_out_laid 0 grown

    pub join_tinted : All (λ r. IsTrue (row_ranged r)) new_rows
    join_tinted = rw is ((tinted_laid_out 0 grown).1 (all_adjusted (λ r. IsTrue (row_ranged r)) (with_degree (row.degree + 1)) (λ r t. t) (rows d) from d.tinted))

    module _ (to cost : ℕ) (new_moves : List Move) (are : new_moves ≡ insert (moves d) (row.start + row.degree) (record { target = to; cost = cost })) where
      pub join_ranged : to < d.count → cost ≤ 10000 → All (λ m. IsTrue (move_ranged d.count m)) new_moves
      join_ranged t c = rw are (all_inserted (λ m. IsTrue (move_ranged d.count m)) (moves d) (row.start + row.degree) (record { target = to; cost = cost }) d.ranged (move_ranged_is d.count (record { target = to; cost = cost }) t c))

      pub join_sheet : ◌≡◌ {A = Arena} (record { height = 8; vertices = vertices_of new_rows new_moves }) (with_adjusted (sheet d) (with_move (record { target = to; cost = cost })) from)
      join_sheet =
          let m : Move = record { target = to; cost = cost } in
          ap₂ (λ rs ms. record { height = 8; vertices = vertices_of rs ms }) is are
          ∙ ap (λ vs. record { height = 8; vertices = vs }) (
          vertices_laid_out 0 grown (insert (moves d) (row.start + row.degree) m)
          ∙ ap (λ k. vertices_of grown (insert (moves d) (k + row.degree) m)) (start_is d from row at)
          ∙ vertices_joined (rows d) (moves d) m from row at (omega (arith, total_is d, moves_length d)))
