-- Parity games on a finite graph, by walks and loops alone: no play here is infinite. The highest
-- colour of a loop decides; even is good for player 0, odd for player 1.
use Rattle.std.specs.Prelude.{◌≡◌, ℕ, ◌%◌, ◌<◌, ◌≤◌, ◌⊎◌}

-- Who decides at a position, its colour, its number of moves and where each leads. Each table is a
-- total function; what stands past the last position or move is of no account.
pub record Game : Type 0 where
  pub owner : ℕ → ℕ
  pub colour : ℕ → ℕ
  pub degree : ℕ → ℕ
  pub target : ℕ → ℕ → ℕ

-- A step from p to q where player i goes by the strategy s: at i's positions the move that s picks,
-- at the other's any move.
abbrev pub Step : Game → ℕ → (ℕ → ℕ) → ℕ → ℕ → Type 0
Step g i s p q = (m : ℕ) × (m < g.degree p) × (g.owner p ≡ i → m ≡ s p) × (g.target p m ≡ q)

-- A walk of one step or more.
pub data Walk (E : ℕ → ℕ → Type 0) : ℕ → ℕ → Type 0 where
  last : {p q : ℕ} → E p q → Walk E p q
  step : {p q r : ℕ} → E p q → Walk E q r → Walk E p r

-- A walk of no step or more.
abbrev pub Reaches : (ℕ → ℕ → Type 0) → ℕ → ℕ → Type 0
Reaches E p q = (p ≡ q) ⊎ Walk E p q

-- A step of E that begins and ends in U.
abbrev pub Inside : (ℕ → Type 0) → (ℕ → ℕ → Type 0) → ℕ → ℕ → Type 0
Inside U E p q = U p × U q × E p q

-- p is on a loop with no higher colour.
abbrev pub Loop : (ℕ → ℕ) → (ℕ → ℕ → Type 0) → ℕ → Type 0
Loop colour E p = Walk (Inside (λ x. colour x ≤ colour p) E) p p

-- Player i keeps U in the region R by s: its moves exist and stay in R, no step that stays in R
-- leaves U, and in U no position of the other parity is on a loop with no higher colour.
pub record Keeps (g : Game) (i : ℕ) (R : ℕ → Type 0) (s : ℕ → ℕ) (U : ℕ → Type 0) : Type 0 where
  pub inside : (p : ℕ) → U p → R p
  pub moves : (p : ℕ) → U p → g.owner p ≡ i → (s p < g.degree p) × R (g.target p (s p))
  pub closed : (p q : ℕ) → U p → R q → Step g i s p q → U q
  pub sound : (p : ℕ) → U p → ¬ (g.colour p % 2 ≡ i) → ¬ Loop g.colour (Inside U (Step g i s)) p

-- At p every step by s that stays in R ends in A, at a lower rank.
pub record Descends (g : Game) (i : ℕ) (R : ℕ → Type 0) (s : ℕ → ℕ) (rank : ℕ → ℕ) (A : ℕ → Type 0) (p : ℕ) : Type 0 where
  pub moves : g.owner p ≡ i → (s p < g.degree p) × R (g.target p (s p))
  pub falls : (q : ℕ) → R q → Step g i s p q → A q × (rank q < rank p)

-- p has the colour d, and from it s moves within R.
pub record AtTop (g : Game) (i d : ℕ) (R : ℕ → Type 0) (s : ℕ → ℕ) (p : ℕ) : Type 0 where
  pub shows : g.colour p ≡ d
  pub moves : g.owner p ≡ i → (s p < g.degree p) × R (g.target p (s p))

-- C is a trap in R for the opponents of i: no move of theirs that stays in R leaves C.
abbrev pub Trap : Game → ℕ → (ℕ → Type 0) → (ℕ → Type 0) → Type 0
Trap g i R C = (p q m : ℕ) → C p → ¬ (g.owner p ≡ i) → R q → m < g.degree p → g.target p m ≡ q → C q

-- R splits into what i keeps and what j keeps, by one strategy table for both.
pub record Split (g : Game) (i j : ℕ) (R : ℕ → Type 0) (s : ℕ → ℕ) (U V : ℕ → Type 0) : Type 0 where
  pub ours : Keeps g i R s U
  pub theirs : Keeps g j R s V
  pub all : (p : ℕ) → R p → U p ⊎ V p
