-- A game held in plain tables.
use Rattle.std.specs.Prelude.{ℕ, ◌+◌, ◌-◌, List, length, slice_index}
use Rattle.parity.specs.Boards.{Board}
use Rattle.parity.specs.Clips.{clip}

-- As many positions as there are owners. Position p has its owner and its colour at p, and its
-- moves stand in the targets from start p up to start (p + 1). A number past a table's end is read
-- as 0, and what lies out of range is clipped, so that any tables make a game.
abbrev pub tabled : List ℕ → List ℕ → List ℕ → List ℕ → Board
tabled owners colours starts targets =
    clip (record {
      size = length owners;
      game = record {
        owner = λ p. slice_index owners p;
        colour = λ p. slice_index colours p;
        degree = λ p. slice_index starts (p + 1) - slice_index starts p;
        target = λ p m. slice_index targets (slice_index starts p + m);
      };
    })
