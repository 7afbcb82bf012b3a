-- Voyages under a standing plan, move by move.
use Rattle.std.specs.Prelude.{◌≡◌, ℕ, ◌<◌, List, [], ◌∷◌}
use Rattle.chart.specs.Arena.{Arena}
use Rattle.game.specs.Reading.{owner_of, degree_of, target_of}

-- The moves ms are a voyage from v, and the controller's are those of the standing plan s.
abbrev pub Sails : Arena → (ℕ → ℕ) → ℕ → List ℕ → Type 0
Sails a s v [] = Unit
Sails a s v (m ∷ ms) = (m < degree_of a v) × (owner_of a v ≡ 0 → m ≡ s v) × Sails a s (target_of a v m) ms
