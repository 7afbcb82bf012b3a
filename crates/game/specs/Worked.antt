-- Small charts, worked by hand, each named for what it shows. All have height 8.
use Rattle.std.specs.Prelude.{ℕ, List, [], ◌∷◌}
use Rattle.chart.specs.Arena.{Arena, Vertex}
use Rattle.chart.specs.declared.parts.Move.{Move}

-- A vertex of the controller, and one of the harbour.
abbrev pub ours : ℕ → List Move → Vertex
ours colour moves = record { owner = 0; colour = colour; moves = moves }

abbrev pub theirs : ℕ → List Move → Vertex
theirs colour moves = record { owner = 1; colour = colour; moves = moves }

-- A move to a vertex, at a cost.
abbrev pub to : ℕ → ℕ → Move
to target cost = record { target = target; cost = cost }

abbrev pub chart : List Vertex → Arena
chart vertices = record { height = 8; vertices = vertices }

-- No vertices.
abbrev pub empty : Arena
empty = chart []

-- A request of colour 1 at vertex 0, always answered at vertex 1, 3 metres on.
abbrev pub answered : Arena
answered = chart (ours 1 (to 1 3 ∷ []) ∷ ours 2 (to 0 4 ∷ []) ∷ [])

-- A request that is never answered and, after 1 metre, waits at no further cost.
abbrev pub waiting_free : Arena
waiting_free = chart (ours 1 (to 1 1 ∷ []) ∷ ours 0 (to 1 0 ∷ []) ∷ [])

-- A request that is never answered and waits ever longer.
abbrev pub waiting_dear : Arena
waiting_dear = chart (ours 1 (to 1 1 ∷ []) ∷ ours 0 (to 1 1 ∷ []) ∷ [])

-- The harbour can stay at a request for nothing, or go on to its answer.
abbrev pub asked_again : Arena
asked_again = chart (theirs 1 (to 0 0 ∷ to 1 0 ∷ []) ∷ ours 2 (to 0 0 ∷ []) ∷ [])

-- After a request the harbour can put off its answer for nothing.
abbrev pub put_off : Arena
put_off = chart (ours 1 (to 1 1 ∷ []) ∷ theirs 0 (to 1 0 ∷ to 2 2 ∷ []) ∷ ours 2 (to 0 0 ∷ []) ∷ [])

-- The same where putting off costs: every loop is even, and yet the wait has no bound.
abbrev pub put_off_dear : Arena
put_off_dear = chart (ours 1 (to 1 1 ∷ []) ∷ theirs 0 (to 1 1 ∷ to 2 2 ∷ []) ∷ ours 2 (to 0 0 ∷ []) ∷ [])

-- At the request the controller has a dear way to the answer and a cheaper one away from it.
abbrev pub dear_answer : Arena
dear_answer = chart (theirs 0 (to 0 5 ∷ to 1 0 ∷ []) ∷ ours 1 (to 2 7 ∷ to 0 5 ∷ []) ∷ ours 2 (to 0 5 ∷ []) ∷ [])

-- Two requests of one colour before their answer.
abbrev pub asked_twice : Arena
asked_twice = chart (ours 1 (to 1 2 ∷ []) ∷ ours 1 (to 2 3 ∷ []) ∷ ours 2 (to 0 0 ∷ []) ∷ [])

-- A request of colour 1, then one of colour 3, then an answer to both.
abbrev pub outbid : Arena
outbid = chart (ours 1 (to 1 5 ∷ []) ∷ ours 3 (to 2 1 ∷ []) ∷ ours 4 (to 0 0 ∷ []) ∷ [])

-- A request of colour 3 and an even colour too low for it.
abbrev pub too_low : Arena
too_low = chart (ours 3 (to 1 2 ∷ []) ∷ ours 2 (to 0 4 ∷ []) ∷ [])
