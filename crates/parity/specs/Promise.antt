-- What the solver promises of any game, whatever its method.
use Rattle.std.specs.Prelude.{◌≡◌, ℕ, zero, suc, ◌*◌, ◌<◌, ◌≤◌, Bool, cond, List, Some, None, Option, nat_eq, nat_lt, slice_index}
use Rattle.walks.specs.Games.{Keeps}
use Rattle.chart.specs.Refusals.{Outcome, done, refused}
use Rattle.parity.specs.Boards.{Board}

-- The first of two that is there.
abbrev pub or_else : {A : Type 0} → Option A → Option A → Option A
or_else (Some x) y = Some x
or_else None y = y

-- The lowest number below n that passes the test.
abbrev pub lowest : (ℕ → Bool) → ℕ → Option ℕ
lowest test zero = None
lowest test (suc n) = or_else (lowest test n) (cond (test n) (Some n) None)

-- The lowest position that no move leaves.
abbrev pub dead_end : Board → Option ℕ
dead_end b = lowest (λ p. nat_eq (b.game.degree p) 0) b.size

-- How the lengths of the winners, the moves and the memory are judged: a table must have a number
-- for each position, and the memory eight.
abbrev pub fitting : ℕ → ℕ → ℕ → ℕ → Outcome (Unit {0})
fitting size winners moves memory =
    cond (nat_lt winners size) (refused 10 0) (cond (nat_lt moves size) (refused 10 0) (cond (nat_lt memory (8 * size)) (refused 11 0) (done tt)))

-- Whether a game is solved, or refused: first where a position has no move, then by the lengths.
abbrev pub judged : Option ℕ → Outcome (Unit {0}) → Outcome (Unit {0})
judged (Some p) fits = refused 8 p
judged None fits = fits

abbrev pub verdict : Board → ℕ → ℕ → ℕ → Outcome (Unit {0})
verdict b winners moves memory = judged (dead_end b) (fitting b.size winners moves memory)

-- The winners split the positions in two, and each player keeps its own half by its moves.
pub record Settled (b : Board) (winners moves : List ℕ) : Type 0 where
  pub two : (p : ℕ) → p < b.size → slice_index winners p ≤ 1
  pub keeps : (i : ℕ) → i ≤ 1 → Keeps b.game i (λ p. p < b.size) (λ p. slice_index moves p) (λ p. (p < b.size) × (slice_index winners p ≡ i))

-- No other winners settle the game: whatever tables do have these winners.
abbrev pub Sole : Board → List ℕ → Type 0
Sole b winners = (others moves : List ℕ) → Settled b others moves → (p : ℕ) → p < b.size → slice_index winners p ≡ slice_index others p
