-- The numbers by which texts and rules speak of the two players.
use Rattle.std.specs.Prelude.{ℕ}
use Rattle.chart.specs.declared.parts.Player.{Player}
use Rattle.chart.specs.declared.parts.Player.TheVariants.{Controller, Harbour}

abbrev pub numbered : Player → ℕ
numbered Controller = 0
numbered Harbour = 1
