-- Any board, held to the ranges. For a game whose kind cannot carry the proof that it keeps to
-- them: where it does, nothing is clipped, and what is settled of the one is settled of the other.
use Rattle.std.specs.Prelude.{ℕ, min, cond, nat_lt}
use Rattle.parity.specs.Boards.{Board}

-- An end that is no position is read as position 0.
abbrev pub clipped : ℕ → ℕ → ℕ
clipped size q = cond (nat_lt q size) q 0

-- At most 65,536 positions, an owner above 1 read as 1, and numbers that fit the tables.
abbrev pub clip : Board → Board
clip b =
    record {
      size = min b.size 65536;
      game = record {
        owner = λ p. min (b.game.owner p) 1;
        colour = λ p. min (b.game.colour p) 255;
        degree = λ p. min (b.game.degree p) 4294967295;
        target = λ p m. clipped (min b.size 65536) (b.game.target p m);
      };
    }
