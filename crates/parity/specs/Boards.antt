-- A finite parity game: how many positions it has, and what stands at each.
use Rattle.std.specs.Prelude.{ℕ, ◌^◌, ◌<◌, ◌≤◌}
use Rattle.walks.specs.Games.{Game}

-- The positions are the numbers below size. What the game answers past them, or past a position's
-- last move, is of no account.
pub record Board : Type 0 where
  pub size : ℕ
  pub game : Game

-- Two players, moves that end among the positions, and numbers that fit the tables.
pub record Ranged (b : Board) : Type 0 where
  pub few : b.size ≤ 65536
  pub owners : (p : ℕ) → p < b.size → b.game.owner p ≤ 1
  pub colours : (p : ℕ) → p < b.size → b.game.colour p ≤ 255
  pub degrees : (p : ℕ) → p < b.size → b.game.degree p < 2 ^ 32
  pub targets : (p m : ℕ) → p < b.size → m < b.game.degree p → b.game.target p m < b.size
