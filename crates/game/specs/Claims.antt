-- What makes a standing plan safe on the vertices marked, and a counterplay safe on the others:
-- conditions on steps and loops alone.
use Rattle.std.specs.Prelude.{◌≡◌, ℕ, ◌+◌, ◌*◌, ◌/◌, ◌%◌, ◌<◌, false, cond, List, [], ◌∷◌, ◌==◌}
use Rattle.chart.specs.Arena.{Arena, size}
use Rattle.walks.specs.Games.{Step, Inside, Loop, Reaches}
use Rattle.game.specs.Reading.{owner_of, colour_of, degree_of, target_of, cost_of, game_of}
use Rattle.game.specs.Voyages.{answers}
use Rattle.game.specs.Waiting.{levels, arrive, stage_in, waiting, first}

-- A step on the chart where the controller goes by the standing plan s and the harbour as it likes.
abbrev pub PlanStep : Arena → (ℕ → ℕ) → ℕ → ℕ → Type 0
PlanStep a s = Step (game_of a) 0 s

-- Such a step that arrives at no answer to a request of colour q.
abbrev pub WaitingStep : Arena → (ℕ → ℕ) → ℕ → ℕ → ℕ → Type 0
WaitingStep a s q x y = PlanStep a s x y × (answers a q y ≡ false)

-- From u, without an answer to its colour, a loop of cost above 0 can be met: a step that costs, and
-- a walk back to where it began.
pub record CostlyLoop (a : Arena) (s : ℕ → ℕ) (u : ℕ) : Type 0 where
  pub from : ℕ
  pub to : ℕ
  pub met : Reaches (WaitingStep a s (colour_of a u)) u from
  pub move : WaitingStep a s (colour_of a u) from to
  pub costs : 0 < cost_of a from move.0.0
  pub back : Reaches (WaitingStep a s (colour_of a u)) to from

-- The standing plan s is safe on the marked vertices: it has a move at each that the controller
-- owns, no step leaves them, no odd one is on a loop with no higher colour, and from no odd one a
-- costly loop can be met without an answer.
pub record SafePlan (a : Arena) (Marked : ℕ → Type 0) (s : ℕ → ℕ) : Type 0 where
  pub there : (v : ℕ) → Marked v → v < size a
  pub moves : (v : ℕ) → Marked v → owner_of a v ≡ 0 → s v < degree_of a v
  pub closed : (x y : ℕ) → Marked x → PlanStep a s x y → Marked y
  pub no_odd_loop : (u : ℕ) → Marked u → colour_of a u % 2 ≡ 1 → ¬ Loop (colour_of a) (Inside Marked (PlanStep a s)) u
  pub no_costly_loop : (u : ℕ) → Marked u → colour_of a u % 2 ≡ 1 → ¬ CostlyLoop a s u

-- A counterplay has an entry for each vertex and level, and these are numbered in that order.
abbrev pub entry : Arena → ℕ → ℕ → ℕ
entry a vertex level = vertex * levels a + level

-- The moves ms from v at a level are the counterplay's wherever the harbour makes them.
abbrev pub Counters : Arena → (ℕ → ℕ) → ℕ → ℕ → List ℕ → Type 0
Counters a t v level [] = Unit
Counters a t v level (m ∷ ms) =
    (owner_of a v ≡ 1 → m ≡ t (entry a v level)) ×
    Counters a t (target_of a v m) (arrive level (colour_of a (target_of a v m))) ms

-- The counterplay as a strategy on positions: its entry at stage 0, and at a toll the only move.
abbrev pub by_entry : (ℕ → ℕ) → ℕ → ℕ
by_entry t p = cond (stage_in p == 0) (t (p / 2)) 0

-- A step between positions: every move of the controller, every toll and the counterplay's moves.
abbrev pub CounterStep : Arena → (ℕ → ℕ) → ℕ → ℕ → Type 0
CounterStep a t = Step (game_of (waiting a)) 1 (by_entry t)

-- The positions reached from the first positions of the vertices that are not marked.
pub data Reached (a : Arena) (Marked : ℕ → Type 0) (t : ℕ → ℕ) : ℕ → Type 0 where
  begun : {v : ℕ} → v < size a → ¬ Marked v → Reached a Marked t (first a v)
  led : {p q : ℕ} → Reached a Marked t p → CounterStep a t p q → Reached a Marked t q

-- The counterplay is safe against the marks: it has a move at every reached position of the
-- harbour, and no reached position of even colour is on a loop of reached ones with no higher
-- colour.
pub record SafeCounter (a : Arena) (Marked : ℕ → Type 0) (t : ℕ → ℕ) : Type 0 where
  pub moves : (p : ℕ) → Reached a Marked t p → owner_of (waiting a) p ≡ 1 → by_entry t p < degree_of (waiting a) p
  pub no_even_loop : (p : ℕ) → Reached a Marked t p → colour_of (waiting a) p % 2 ≡ 0 →
      ¬ Loop (colour_of (waiting a)) (Inside (Reached a Marked t) (CounterStep a t)) p
