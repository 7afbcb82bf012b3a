-- Levels at which a vertex is won in the waiting chart.
use Rattle.std.specs.Prelude.{◌≡◌, ℕ, ◌/◌, ◌<◌, ◌≤◌}
use Rattle.chart.specs.Arena.{Arena, size}
use Rattle.game.specs.Reading.{colour_of}
use Rattle.game.specs.Waiting.{arrive, place, positions}

-- A position by its number.
abbrev pub Spot : Arena → ℕ → Type 0
Spot a p = p < positions a

-- Arriving at v leaves the level l as it is. Every level that is reached at v is stable there.
abbrev pub Stable : Arena → ℕ → ℕ → Type 0
Stable a v l = (l ≤ a.height / 2) × (arrive l (colour_of a v) ≡ l)

-- The marked vertices are those with a stable level that W has, and best v is the greatest such
-- level.
pub record Best (a : Arena) (W : ℕ → Type 0) (Marked : ℕ → Type 0) (best : ℕ → ℕ) : Type 0 where
  pub there : (v : ℕ) → Marked v → v < size a
  pub stable : (v : ℕ) → Marked v → Stable a v (best v)
  pub won : (v : ℕ) → Marked v → W (place a v (best v) 0)
  pub most : (v l : ℕ) → v < size a → Stable a v l → W (place a v l 0) → Marked v × (l ≤ best v)
