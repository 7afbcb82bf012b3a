-- The steps of one round of the solver: which positions show the highest colour, what the opponent
-- has gained below, and how far colours reach in what is left.
use Rattle.std.specs.Prelude.{◌≡◌, ℕ, ◌+◌, ◌<◌, ◌≤◌, Bool, true, false}
use Rattle.walks.specs.Games.{Game}
use Rattle.parity.specs.Sheets.{Sheet, Kept}

-- If any move from p ends at a tag of at most m, then k does.
abbrev pub Stays : Game → ℕ → (ℕ → ℕ) → ℕ → ℕ → Type 0
Stays g m t p k = (l : ℕ) → l < g.degree p → t (g.target p l) ≤ m → (k < g.degree p) × (t (g.target p k) ≤ m)

-- p has a tag of at most m: at the colour d it gets the mark m, the winner i and a move that stays;
-- at any other colour it gets the tag 0.
pub record Seeds (g : Game) (d i m : ℕ) (t : ℕ → ℕ) (after : Sheet) (p : ℕ) : Type 0 where
  pub top : g.colour p ≡ d → (after.tag p ≡ m) × (after.winner p ≡ i) × Stays g m t p (after.move p)
  pub rest : ¬ (g.colour p ≡ d) → after.tag p ≡ 0

-- Every position below n with a tag of at most m is seeded, and the others are as they were; some
-- says whether one has the colour d.
pub record Seeded (g : Game) (d i m n : ℕ) (before after : Sheet) (some : Bool) : Type 0 where
  pub low : (p : ℕ) → p < n → before.tag p ≤ m → Seeds g d i m before.tag after p
  pub high : (p : ℕ) → (p < n → m < before.tag p) → Kept before after p
  pub none : some ≡ false → (p : ℕ) → p < n → before.tag p ≤ m → ¬ (g.colour p ≡ d)

-- The same of one position alone.
pub record SeededAt (g : Game) (d i m p : ℕ) (before after : Sheet) (some : Bool) : Type 0 where
  pub low : before.tag p ≤ m → Seeds g d i m before.tag after p
  pub high : m < before.tag p → Kept before after p
  pub rest : (q : ℕ) → ¬ (q ≡ p) → Kept before after q
  pub none : some ≡ false → before.tag p ≤ m → ¬ (g.colour p ≡ d)

-- c is the least number above the colours of the positions below n with a tag below b.
pub record Highest (g : Game) (b n : ℕ) (t : ℕ → ℕ) (c : ℕ) : Type 0 where
  pub covers : (p : ℕ) → p < n → t p < b → g.colour p < c
  pub least : (e : ℕ) → ((p : ℕ) → p < n → t p < b → g.colour p < e) → c ≤ e

-- The positions below n with a tag below m that the player o has won get the tag m + 1, and the
-- others keep theirs; some says whether there is one.
pub record Given (o m n : ℕ) (winner before after : ℕ → ℕ) (some : Bool) : Type 0 where
  pub gained : (p : ℕ) → p < n → before p < m → winner p ≡ o → after p ≡ m + 1
  pub kept : (p : ℕ) → (p < n → before p < m → ¬ (winner p ≡ o)) → after p ≡ before p
  pub found : some ≡ true → (p : ℕ) × (p < n) × (before p < m) × (winner p ≡ o)
  pub none : some ≡ false → (p : ℕ) → p < n → before p < m → ¬ (winner p ≡ o)
