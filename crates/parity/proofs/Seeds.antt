-- The seeds, one position after another.
use Rattle.std.proofs.Common.{ℕ, ◌+◌, Bool, ◌||◌, arith}
use Rattle.std.proofs.lemmas.Grind.{common_steps}
use Rattle.walks.specs.Games.{Game}
use Rattle.parity.specs.Sheets.{Sheet}
use Rattle.parity.specs.Rounds.{Seeded, SeededAt}

pub seeded_next : (g : Game) (d i m n : ℕ) (a z y : Sheet) (some one : Bool) → Seeded g d i m n a z some → SeededAt g d i m n z y one →
    Seeded g d i m (n + 1) a y (some || one)
seeded_next g d i m n a z y some one s t = grind (arith, common_steps)
