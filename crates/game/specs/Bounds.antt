-- The greatest wait under a standing plan, and how to work it out move by move.
use Rattle.std.specs.Prelude.{◌≡◌, ℕ, zero, suc, ◌+◌, ◌≤◌, max, Bool, true, cond, ◌&&◌, List, ◌==◌}
use Rattle.chart.specs.Arena.{Arena, size}
use Rattle.game.specs.Reading.{owner_of, colour_of, degree_of, target_of, cost_of}
use Rattle.game.specs.Voyages.{Voyage, requests, answers, worst_wait}
use Rattle.game.specs.Held.{standing, Follows}

-- A voyage from v by the moves ms, under the standing plan s.
abbrev pub Under : Arena → (ℕ → ℕ) → ℕ → List ℕ → Type 0
Under a s v ms = Voyage a v ms × Follows a (standing a s v) v ms

-- w is the worst wait over all voyages under s from marked vertices: none passes it and, if there
-- are marks, one has it; it is 0 without marks.
pub record GreatestWait (a : Arena) (Marked : ℕ → Type 0) (s : ℕ → ℕ) (w : ℕ) : Type 0 where
  pub over : (v : ℕ) (ms : List ℕ) → Marked v → Under a s v ms → worst_wait a v ms ≤ w
  pub met : (v : ℕ) → Marked v → (u : ℕ) × (ms : List ℕ) × Marked u × Under a s u ms × (worst_wait a u ms ≡ w)
  pub none : ((v : ℕ) → ¬ Marked v) → w ≡ 0

-- The greatest f m over the numbers m below n that pass, 0 for none.
abbrev pub greatest_of : (ℕ → Bool) → (ℕ → ℕ) → ℕ → ℕ
greatest_of test f zero = 0
greatest_of test f (suc n) = max (greatest_of test f n) (cond (test n) (f n) 0)

-- Move m of v may be made under the standing plan s.
abbrev pub allowed : Arena → (ℕ → ℕ) → ℕ → ℕ → Bool
allowed a s v m = cond (owner_of a v == 0) (m == s v) true

-- The greatest wait of a request of colour q, made at v, over the voyages under s of at most so
-- many moves.
abbrev pub longest : Arena → (ℕ → ℕ) → ℕ → ℕ → ℕ → ℕ
longest a s q zero v = 0
longest a s q (suc k) v =
    greatest_of (allowed a s v) (λ m. cost_of a v m + cond (answers a q (target_of a v m)) 0 (longest a s q k (target_of a v m))) (degree_of a v)

-- The greatest wait over the voyages under s from marked vertices, of at most as many moves after a
-- request as there are vertices: where the plan is safe, longer voyages wait no longer.
abbrev pub greatest_wait : Arena → (ℕ → Bool) → (ℕ → ℕ) → ℕ
greatest_wait a marked s =
    greatest_of (λ v. marked v && requests a v) (λ v. longest a s (colour_of a v) (size a) v) (size a)

-- The greatest cost of a move.
abbrev pub greatest_cost : Arena → ℕ
greatest_cost a = greatest_of (λ v. true) (λ v. greatest_of (λ m. true) (cost_of a v) (degree_of a v)) (size a)
