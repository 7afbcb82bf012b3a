-- What a vertex more does to a drawn chart.
use Rattle.std.proofs.Common.{◌≡◌, ℕ, ◌+◌, ◌<◌, ◌≤◌, true, [], ◌∷◌, ◌++◌, take, set, refl, ap, ◌∙◌, arith}
use Rattle.std.specs.Bool.{IsTrue}
use Rattle.std.specs.List.{All}
use Rattle.std.proofs.lemmas.List.{take_more_set}
use Rattle.std.proofs.lemmas.List.Elements.{All-push}
use Rattle.std.proofs.lemmas.Bool.{le-leb}
use Rattle.chart.specs.declared.parts.Player.{Player}
use Rattle.chart.specs.Arena.{Arena}
use Rattle.chart.specs.Players.{numbered}
use Rattle.drawn.specs.declared.row.Row.{Row}
use Rattle.drawn.specs.declared.sheet.Drawn.{Drawn}
use Rattle.drawn.specs.Rows.{laid, row_ranged, vertices_of}
use Rattle.drawn.specs.Rules.{with_vertex}
use Rattle.drawn.specs.Meaning.{rows, moves, sheet}
use Rattle.drawn.proofs.LaidOut.{laid_push}
use Rattle.drawn.proofs.Vertices.{vertices_push}

module _ (d : Drawn) (player : Player) (colour : ℕ) (room : d.count < 128) where
  abbrev new_row : Row
  new_row = record { owner = player; colour = colour; start = d.used; degree = 0 }

  pub more_rows : take (d.count + 1) (set d.rows d.count new_row) ≡ rows d ++ new_row ∷ []
  more_rows = take_more_set d.rows d.count new_row (omega (arith, d.wide))

  pub place_ordered : laid 0 (take (d.count + 1) (set d.rows d.count new_row)) d.used ≡ true
  place_ordered = ap (λ rs. laid 0 rs d.used) more_rows ∙ laid_push 0 (rows d) d.used new_row d.ordered refl refl

  pub place_tinted : colour ≤ 8 → All (λ r. IsTrue (row_ranged r)) (take (d.count + 1) (set d.rows d.count new_row))
  place_tinted low = rw more_rows (All-push (λ r. IsTrue (row_ranged r)) (rows d) new_row d.tinted (le-leb colour 8 low))

  pub place_sheet : (owner : ℕ) → numbered player ≡ owner →
      ◌≡◌ {A = Arena} (record { height = 8; vertices = vertices_of (take (d.count + 1) (set d.rows d.count new_row)) (moves d) }) (with_vertex (sheet d) (record { owner = owner; colour = colour; moves = [] }))
  place_sheet owner is =
      ap (λ rs. record { height = 8; vertices = vertices_of rs (moves d) }) more_rows
      ∙ ap (λ vs. record { height = 8; vertices = vs }) (vertices_push (rows d) new_row (moves d) refl)
      ∙ ap (λ o. with_vertex (sheet d) (record { owner = o; colour = colour; moves = [] })) is
