-- Sets of positions as tables, and attractors: what one player draws to a set.
use Rattle.std.specs.Prelude.{◌≡◌, ℕ, zero, suc, ◌+◌, ◌<◌, cond, ◌⊎◌, ◌==◌}
use Rattle.walks.specs.Games.{Game, Descends}

-- A table as a set: 1 marks a member.
abbrev pub In : (ℕ → ℕ) → ℕ → Type 0
In u p = u p ≡ 1

-- The table u with v at p.
unfoldable pub put : (ℕ → ℕ) → ℕ → ℕ → ℕ → ℕ
put u p v x = cond (x == p) v (u x)

-- R without A.
unfoldable pub cut : (ℕ → ℕ) → (ℕ → ℕ) → ℕ → ℕ
cut R A x = cond (A x == 1) 0 (R x)

-- The table s on A, and t elsewhere.
unfoldable pub over : (ℕ → ℕ) → (ℕ → ℕ) → (ℕ → ℕ) → ℕ → ℕ
over A s t x = cond (A x == 1) (s x) (t x)

-- The number of members below n.
abbrev pub members : (ℕ → ℕ) → ℕ → ℕ
members u zero = 0
members u (suc n) = cond (u n == 1) 1 0 + members u n

-- Every position of R has a move within R.
abbrev pub Total : Game → (ℕ → ℕ) → Type 0
Total g R = (p : ℕ) → In R p → (m : ℕ) × (m < g.degree p) × In R (g.target p m)

-- Player i draws p into A: its move m leads there, or where the other decides, all moves within R do.
abbrev pub Pulls : Game → ℕ → (ℕ → ℕ) → (ℕ → ℕ) → ℕ → ℕ → Type 0
Pulls g i R A p m =
    (g.owner p ≡ i → (m < g.degree p) × In A (g.target p m)) ×
    (¬ (g.owner p ≡ i) → (k : ℕ) → k < g.degree p → In R (g.target p k) → In A (g.target p k))

-- Player i cannot draw p into A: none of its moves leads there, or where the other decides, a move
-- within R leads elsewhere.
abbrev pub Leaks : Game → ℕ → (ℕ → ℕ) → (ℕ → ℕ) → ℕ → Type 0
Leaks g i R A p =
    (g.owner p ≡ i → (k : ℕ) → k < g.degree p → ¬ In A (g.target p k)) ×
    (¬ (g.owner p ≡ i) → (k : ℕ) × (k < g.degree p) × In R (g.target p k) × ¬ In A (g.target p k))

-- Within R, A is X with positions that s draws to X, step by step at falling ranks.
pub record Drawing (g : Game) (i : ℕ) (R X A s : ℕ → ℕ) : Type 0 where
  pub rank : ℕ → ℕ
  pub ranks : ℕ
  pub wide : (p : ℕ) → In X p → In A p
  pub inside : (p : ℕ) → In A p → In R p
  pub draw : (p : ℕ) → In A p → In X p ⊎ Descends g i (In R) s rank (In A) p
  pub under : (p : ℕ) → In A p → rank p < ranks
