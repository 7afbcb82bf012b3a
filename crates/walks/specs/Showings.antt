-- Walks as lists of positions, and how often a colour is shown along one.
use Rattle.std.specs.Prelude.{◌≡◌, ℕ, zero, suc, ◌+◌, ◌*◌, ◌%◌, ◌<◌, ◌≤◌, cond, List, [], ◌∷◌, ◌++◌, ◌==◌}
use Rattle.std.specs.List.{AllByRecursion}

-- The first of the list, if there is one, is a step from x.
abbrev pub Next : (ℕ → ℕ → Type 0) → ℕ → List ℕ → Type 0
Next E x [] = Unit
Next E x (y ∷ ys) = E x y

-- Each position but the first is a step from the one before it.
abbrev pub Chain : (ℕ → ℕ → Type 0) → List ℕ → Type 0
Chain E [] = Unit
Chain E (x ∷ xs) = Next E x xs × Chain E xs

-- 1 for equal numbers, else 0.
abbrev pub same : ℕ → ℕ → ℕ
same a b = cond (a == b) 1 0

-- The sum of f over the list.
abbrev pub tally : (ℕ → ℕ) → List ℕ → ℕ
tally f [] = 0
tally f (x ∷ xs) = f x + tally f xs

-- Some odd colour is shown more than K times in a part of the list in which nothing is higher: so
-- with nothing higher from the first of these showings to the last.
pub record Shows (colour : ℕ → ℕ) (K : ℕ) (xs : List ℕ) : Type 0 where
  pub shown : ℕ
  pub odd : shown % 2 ≡ 1
  pub before : List ℕ
  pub part : List ℕ
  pub after : List ℕ
  pub is : xs ≡ before ++ (part ++ after)
  pub under : AllByRecursion (λ x. colour x ≤ shown) part
  pub often : K < tally (λ x. same (colour x) shown) part

-- A length that no walk over colours below c passes, where each colour is shown at most N times
-- between higher ones.
abbrev pub limit : ℕ → ℕ → ℕ
limit N zero = 0
limit N (suc c) = N + (N + 1) * limit N c
