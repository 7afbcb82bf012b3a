-- Voyages on a chart, the requests met on the way, and how long they wait.
use Rattle.std.specs.Prelude.{ℕ, ◌+◌, ◌%◌, ◌<◌, max, Bool, true, cond, not, ◌&&◌, List, [], ◌∷◌, ◌==◌, nat_lt}
use Rattle.chart.specs.Arena.{Arena}
use Rattle.game.specs.Reading.{colour_of, degree_of, target_of, cost_of}

-- The moves ms, by their numbers, are a voyage from v: each is a move of the vertex reached.
abbrev pub Voyage : Arena → ℕ → List ℕ → Type 0
Voyage a v [] = Unit
Voyage a v (m ∷ ms) = (m < degree_of a v) × Voyage a (target_of a v m) ms

-- The vertex that the moves lead to.
abbrev pub reached : Arena → ℕ → List ℕ → ℕ
reached a v [] = v
reached a v (m ∷ ms) = reached a (target_of a v m) ms

-- The vertices on the way, the start and the vertex reached among them.
abbrev pub passed : Arena → ℕ → List ℕ → List ℕ
passed a v [] = v ∷ []
passed a v (m ∷ ms) = v ∷ passed a (target_of a v m) ms

-- Being at a vertex of odd colour opens a request of that colour.
abbrev pub requests : Arena → ℕ → Bool
requests a v = colour_of a v % 2 == 1

-- Arriving at v answers a request of colour q: v has an even colour above q.
abbrev pub answers : Arena → ℕ → ℕ → Bool
answers a q v = colour_of a v % 2 == 0 && nat_lt q (colour_of a v)

-- The wait of a request of colour q, made at v: the cost of the moves ms up to and including the one
-- that arrives at its first answer, or of all of them.
abbrev pub wait : Arena → ℕ → ℕ → List ℕ → ℕ
wait a q v [] = 0
wait a q v (m ∷ ms) = cost_of a v m + cond (answers a q (target_of a v m)) 0 (wait a q (target_of a v m) ms)

-- The wait of the request that v makes, 0 if it makes none.
abbrev pub wait_at : Arena → ℕ → List ℕ → ℕ
wait_at a v ms = cond (requests a v) (wait a (colour_of a v) v ms) 0

-- The greatest wait of the requests of a voyage, 0 without requests.
abbrev pub worst_wait : Arena → ℕ → List ℕ → ℕ
worst_wait a v [] = wait_at a v []
worst_wait a v (m ∷ ms) = max (wait_at a v (m ∷ ms)) (worst_wait a (target_of a v m) ms)

-- None of the moves ms arrives at an answer to a request of colour q, made at v.
abbrev pub unanswered : Arena → ℕ → ℕ → List ℕ → Bool
unanswered a q v [] = true
unanswered a q v (m ∷ ms) = not (answers a q (target_of a v m)) && unanswered a q (target_of a v m) ms

-- The colour of v before xs, where v makes a request that waits to the end of ms.
abbrev pub waits_on : Arena → ℕ → List ℕ → List ℕ → List ℕ
waits_on a v ms xs = cond (requests a v && unanswered a (colour_of a v) v ms) (colour_of a v ∷ xs) xs

-- The colours of the requests still waiting at the voyage's end, from the oldest request on.
abbrev pub still_waiting : Arena → ℕ → List ℕ → List ℕ
still_waiting a v [] = waits_on a v [] []
still_waiting a v (m ∷ ms) = waits_on a v (m ∷ ms) (still_waiting a (target_of a v m) ms)

-- The greatest number of a list, 0 for none.
abbrev pub highest : List ℕ → ℕ
highest [] = 0
highest (x ∷ xs) = max x (highest xs)

-- The highest colour still waiting at the end, 0 for none.
abbrev pub highest_waiting : Arena → ℕ → List ℕ → ℕ
highest_waiting a v ms = highest (still_waiting a v ms)
