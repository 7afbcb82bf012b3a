-- A region to solve, and what it is to be solved: each player keeps what it has won there.
use Rattle.std.specs.Prelude.{◌≡◌, ℕ, ◌+◌, ◌<◌, ◌≤◌}
use Rattle.walks.specs.Games.{Keeps}
use Rattle.parity.specs.Boards.{Board}
use Rattle.parity.specs.Sheets.{Sheet, Kept, Under, Marked}

-- The region of the tags below bound: all of them 0, each position with a move that stays in it,
-- every colour below c, and two marks left for each colour.
pub record Region (b : Board) (c bound : ℕ) (a : Sheet) : Type 0 where
  pub room : c + c ≤ bound
  pub fresh : (p : ℕ) → p < b.size → a.tag p < bound → a.tag p ≡ 0
  pub colours : (p : ℕ) → p < b.size → a.tag p < bound → b.game.colour p < c
  pub total : (p : ℕ) → p < b.size → a.tag p < bound → (l : ℕ) × (l < b.game.degree p) × (a.tag (b.game.target p l) < bound)

-- The positions of the region of the tags below bound that player i has won.
abbrev pub Won : Board → ℕ → Sheet → Sheet → ℕ → ℕ → Type 0
Won b bound before after i p = Under b.size before.tag bound p × (after.winner p ≡ i)

-- The region is solved in place, and nothing else has changed.
pub record Solved (b : Board) (bound : ℕ) (before after : Sheet) : Type 0 where
  pub past : (p : ℕ) → p < b.size → bound ≤ before.tag p → Kept before after p
  pub inside : (p : ℕ) → p < b.size → before.tag p < bound → after.tag p < bound
  pub two : (p : ℕ) → p < b.size → before.tag p < bound → after.winner p ≤ 1
  pub keeps : (i : ℕ) → i ≤ 1 → Keeps b.game i (Under b.size before.tag bound) after.move (Won b bound before after i)

-- Between two rounds: what the opponent o has gained so far has the tag m + 1, and is kept; what is
-- left has a tag of at most m, each position of it a move that stays, and o has no move out of it.
pub record Round (b : Board) (o m bound : ℕ) (before after : Sheet) : Type 0 where
  pub past : (p : ℕ) → p < b.size → bound ≤ before.tag p → Kept before after p
  pub inside : (p : ℕ) → p < b.size → before.tag p < bound → after.tag p < bound
  pub gained : Keeps b.game o (Under b.size before.tag bound) after.move (Marked b.size after.tag (m + 1))
  pub owned : (p : ℕ) → p < b.size → after.tag p ≡ m + 1 → after.winner p ≡ o
  pub total : (p : ℕ) → p < b.size → after.tag p ≤ m → (l : ℕ) × (l < b.game.degree p) × (after.tag (b.game.target p l) ≤ m)
  pub trap : (p l : ℕ) → p < b.size → after.tag p ≤ m → b.game.owner p ≡ o → l < b.game.degree p → ¬ (after.tag (b.game.target p l) ≡ m + 1)
