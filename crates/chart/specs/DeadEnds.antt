-- The lowest vertex that no move leaves.
use Rattle.std.specs.Prelude.{ℕ, suc, Bool, cond, List, [], ◌∷◌, length, Some, None, Option, ◌==◌}
use Rattle.chart.specs.Arena.{Arena, Vertex}

-- The number of the first element that passes the test, where the list's first has the number k.
abbrev pub lowest_from : {A : Type 0} → (A → Bool) → ℕ → List A → Option ℕ
lowest_from test k [] = None
lowest_from test k (x ∷ xs) = cond (test x) (Some k) (lowest_from test (suc k) xs)

abbrev pub is_dead_end : Vertex → Bool
is_dead_end v = length v.moves == 0

abbrev pub lowest_dead_end : Arena → Option ℕ
lowest_dead_end a = lowest_from is_dead_end 0 a.vertices
