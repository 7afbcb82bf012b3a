-- The solver's three tables, one number of each for a position: the tag that says which region the
-- position is in, its winner so far and the move that its owner is to play.
use Rattle.std.specs.Prelude.{◌≡◌, ℕ, ◌<◌, List, length, slice_index}

pub record Sheet : Type 0 where
  pub tag : ℕ → ℕ
  pub winner : ℕ → ℕ
  pub move : ℕ → ℕ

-- What the tables hold, read at a position.
abbrev pub sheet : List ℕ → List ℕ → List ℕ → Sheet
sheet tags winners moves = record { tag = λ p. slice_index tags p; winner = λ p. slice_index winners p; move = λ p. slice_index moves p }

-- Each table has one number for each of n positions.
pub record Sized (n : ℕ) (t w s : List ℕ) : Type 0 where
  pub tags : length t ≡ n
  pub winners : length w ≡ n
  pub moves : length s ≡ n

-- The positions below n with a tag below b: a region.
abbrev pub Under : ℕ → (ℕ → ℕ) → ℕ → ℕ → Type 0
Under n t b p = (p < n) × (t p < b)

-- The positions below n with the tag m.
abbrev pub Marked : ℕ → (ℕ → ℕ) → ℕ → ℕ → Type 0
Marked n t m p = (p < n) × (t p ≡ m)

-- Nothing changes at p.
pub record Kept (a b : Sheet) (p : ℕ) : Type 0 where
  pub tag : b.tag p ≡ a.tag p
  pub winner : b.winner p ≡ a.winner p
  pub move : b.move p ≡ a.move p
