-- Plans, and the vertices from which some plan bounds every wait.
use Rattle.std.specs.Prelude.{◌≡◌, ℕ, ◌<◌, ◌≤◌, List, [], ◌∷◌}
use Rattle.chart.specs.Arena.{Arena, size}
use Rattle.walks.specs.Showings.{Shows}
use Rattle.game.specs.Reading.{owner_of, colour_of, degree_of, target_of}
use Rattle.game.specs.Voyages.{Voyage, reached, passed, worst_wait}

-- A plan with memory, for voyages from one start: it picks a move by the moves made so far.
abbrev pub Plan : Type 0
Plan = List ℕ → ℕ

-- The standing plan that picks s x at every vertex x, as a plan with memory from v.
abbrev pub standing : Arena → (ℕ → ℕ) → ℕ → Plan
standing a s v past = s (reached a v past)

-- Each of the moves ms from v that the controller makes is the plan's.
abbrev pub Follows : Arena → Plan → ℕ → List ℕ → Type 0
Follows a plan v [] = Unit
Follows a plan v (m ∷ ms) = (owner_of a v ≡ 0 → m ≡ plan []) × Follows a (λ past. plan (m ∷ past)) (target_of a v m) ms

-- Wherever a voyage under the plan leads to a vertex of the controller that has a move, the plan
-- picks one.
abbrev pub Picks : Arena → Plan → ℕ → Type 0
Picks a plan v = (ms : List ℕ) → Voyage a v ms → Follows a plan v ms → owner_of a (reached a v ms) ≡ 0 →
    0 < degree_of a (reached a v ms) → plan ms < degree_of a (reached a v ms)

-- A vertex is held: some plan with memory keeps every wait within a bound, and every odd colour from
-- being shown more than so many times with nothing higher between.
pub record Held (a : Arena) (v : ℕ) : Type 0 where
  pub there : v < size a
  pub plan : Plan
  pub bound : ℕ
  pub often : ℕ
  pub picks : Picks a plan v
  pub waits : (ms : List ℕ) → Voyage a v ms → Follows a plan v ms → worst_wait a v ms ≤ bound
  pub shows : (ms : List ℕ) → Voyage a v ms → Follows a plan v ms → ¬ Shows (colour_of a) often (passed a v ms)
