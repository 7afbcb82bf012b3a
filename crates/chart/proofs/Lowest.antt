-- The lowest vertex without a move, from what is known of each vertex.
use Rattle.std.proofs.Common.{◌≡◌, ℕ, zero, suc, ◌+◌, ◌<◌, List, [], ◌∷◌, length, Some, None, refl, ap, ◌∙◌, arith, eq-eqb, ne_eqb}
use Rattle.std.specs.List.{slice_get}
use Rattle.std.specs.Option.{option_map}
use Rattle.chart.specs.Arena.{Vertex}
use Rattle.chart.specs.DeadEnds.{lowest_from, is_dead_end}

-- the vertex of a number is there, and no move leaves it
abbrev pub Ends : List Vertex → ℕ → Type 0
Ends vs v = option_map (λ x. length x.moves) (slice_get vs v) ≡ Some 0

pub lowest_at : (k : ℕ) (vs : List Vertex) (i : ℕ) → Ends vs i → ((j : ℕ) → j < i → Ends vs j → ⊥) → lowest_from is_dead_end k vs ≡ Some (i + k)
lowest_at k [] i e before = cc
lowest_at k (v ∷ vs) zero e before =
    let none : length v.moves ≡ 0 = cc in
    rw (eq-eqb (length v.moves) 0 none) (ap Some (omega arith))
lowest_at k (v ∷ vs) (suc i) e before =
    rw (ne_eqb (length v.moves) 0 (λ n. before 0 (omega arith) (ap Some n)))
    (lowest_at (suc k) vs i e (λ j h. before (suc j) (omega arith)) ∙ ap Some (omega arith))

pub lowest_nowhere : (k : ℕ) (vs : List Vertex) → ((j : ℕ) → j < length vs → Ends vs j → ⊥) → lowest_from is_dead_end k vs ≡ None
lowest_nowhere k [] before = refl
lowest_nowhere k (v ∷ vs) before =
    rw (ne_eqb (length v.moves) 0 (λ n. before 0 (omega arith) (ap Some n)))
    (lowest_nowhere (suc k) vs (λ j h. before (suc j) (omega arith)))
