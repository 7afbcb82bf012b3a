-- What a move less does to a drawn chart.
use Rattle.std.proofs.Common.{◌≡◌, ℕ, ◌+◌, ◌-◌, ◌<◌, ◌≤◌, true, List, Some, ap, ◌∙◌, ap₂, arith}
use Rattle.std.specs.Bool.{IsTrue}
use Rattle.std.specs.List.{All, remove, slice_get}
use Rattle.chart.specs.declared.parts.Move.{Move}
use Rattle.chart.specs.Arena.{Arena}
use Rattle.drawn.specs.declared.row.Row.{Row}
use Rattle.drawn.specs.declared.sheet.Drawn.{Drawn}
use Rattle.drawn.specs.Rows.{laid, laid_out, row_ranged, move_ranged, total, vertices_of, with_degree}
use Rattle.drawn.specs.Rules.{adjusted, with_adjusted, without_move}
use Rattle.drawn.specs.Meaning.{rows, moves, sheet}
use Rattle.drawn.specs.Readings.{moves_length}
use Rattle.drawn.proofs.LaidOut.{laid_out_laid, total_resized}
use Rattle.drawn.proofs.Vertices.{vertices_laid_out, vertices_struck}
use Rattle.drawn.proofs.Ranges.{all_removed, all_adjusted, tinted_laid_out}
use Rattle.drawn.proofs.Standing.{start_is, total_is}

-- as many moves at one vertex as before, or fewer
pub cut_total : (d : Drawn) (vertex k : ℕ) (row : Row) → slice_get (rows d) vertex ≡ Some row → k ≤ row.degree → total (adjusted (with_degree k) (rows d) vertex) ≤ 1024
cut_total d vertex k row at le = let few = d.few in omega (arith, total_resized (rows d) vertex row k at, total_is d)

module _ (d : Drawn) (vertex number : ℕ) (row : Row) (at : slice_get (rows d) vertex ≡ Some row) (there : number < row.degree) where
  abbrev shrunk : List Row
  shrunk = adjusted (with_degree (row.degree - 1)) (rows d) vertex

  pub shrunk_total : total shrunk ≡ d.used - 1
  shrunk_total = omega (arith, total_resized (rows d) vertex row (row.degree - 1) at, total_is d)

  module _ (new_rows : List Row) (is : new_rows ≡ laid_out 0 shrunk) where
    pub strike_ordered : laid 0 new_rows (d.used - 1) ≡ true
    strike_ordered = let e : d.used - 1 ≡ 0 + total shrunk = omega (arith, shrunk_total) in ap₂ (laid 0) is e ∙ laid_out_laid 0 shrunk

    pub strike_tinted : All (λ r. IsTrue (row_ranged r)) new_rows
    strike_tinted = rw is ((tinted_laid_out 0 shrunk).1 (all_adjusted (λ r. IsTrue (row_ranged r)) (with_degree (row.degree - 1)) (λ r t. t) (rows d) vertex d.tinted))

    module _ (new_moves : List Move) (are : new_moves ≡ remove (moves d) (row.start + number)) where
      pub strike_ranged : All (λ m. IsTrue (move_ranged d.count m)) new_moves
      strike_ranged = rw are (all_removed (λ m. IsTrue (move_ranged d.count m)) (moves d) (row.start + number) d.ranged)

      pub strike_sheet : ◌≡◌ {A = Arena} (record { height = 8; vertices = vertices_of new_rows new_moves }) (with_adjusted (sheet d) (without_move number) vertex)
      strike_sheet =
          ap₂ (λ rs ms. record { height = 8; vertices = vertices_of rs ms }) is are
          ∙ ap (λ vs. record { height = 8; vertices = vs }) (
          vertices_laid_out 0 shrunk (remove (moves d) (row.start + number))
          ∙ ap (λ k. vertices_of shrunk (remove (moves d) (k + number))) (start_is d vertex row at)
          ∙ vertices_struck (rows d) (moves d) vertex number row at there (omega (arith, total_is d, moves_length d)))
