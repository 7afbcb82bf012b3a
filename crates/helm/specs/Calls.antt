-- What begin, steer and hear answer, and the tally that they leave, as functions of the chart and of their arguments.
-- A refused call leaves the tally as it stood.
use Rattle.std.specs.Prelude.{ℕ, ◌+◌, ◌/◌, max, cond, ◌&&◌, ◌||◌, List, map, length, take, ◌==◌, nat_le, nat_lt, slice_index}
use Rattle.chart.specs.Arena.{Arena, size}
use Rattle.chart.specs.Refusals.{Outcome, done, refused}
use Rattle.game.specs.Reading.{owner_of, colour_of, degree_of, target_of, cost_of}
use Rattle.helm.specs.Tally.{grown, arrived, cleared, longest, highest_open, on_first}
use Rattle.helm.specs.States.{State, Reply, went, stayed}

-- How many odd colours there are up to the height, and so how many entries of the tally are used.
abbrev pub half : Arena → ℕ
half a = a.height / 2

-- The used entries at the start of a voyage.
abbrev pub waits_begun : Arena → ℕ → List ℕ → List ℕ
waits_begun a start ts = arrived (colour_of a start) 1 (cleared ts)

-- The used entries after a move of that cost to a vertex of that colour.
abbrev pub waits_passed : ℕ → ℕ → List ℕ → List ℕ
waits_passed cost colour ts = arrived colour 1 (map (grown cost) ts)

-- The state at the start, with the tally before.
abbrev pub state_begun : Arena → ℕ → List ℕ → State
state_begun a start ts =
    record { turn = owner_of a start; vertex = start; moves = 0; worst = 0; waiting = highest_open 1 (waits_begun a start (take (half a) ts)) }

-- The state after a move to v at that cost, with the moves made, the worst wait and the tally before it.
abbrev pub sailed : Arena → ℕ → ℕ → ℕ → ℕ → List ℕ → State
sailed a v cost moves worst ts =
    record {
      turn = owner_of a v;
      vertex = v;
      moves = moves + 1;
      worst = max worst (longest (map (grown cost) (take (half a) ts)));
      waiting = highest_open 1 (waits_passed cost (colour_of a v) (take (half a) ts));
    }

-- The state after move m of the state's vertex.
abbrev pub state_moved : Arena → State → ℕ → List ℕ → State
state_moved a s m ts = sailed a (target_of a s.vertex m) (cost_of a s.vertex m) s.moves s.worst ts

-- The tally after it.
abbrev pub tally_moved : Arena → State → ℕ → List ℕ → List ℕ
tally_moved a s m ts = on_first (half a) (waits_passed (cost_of a s.vertex m) (colour_of a (target_of a s.vertex m))) ts

-- begin gives the start's state. It refuses marks shorter than the vertices or a tally with fewer entries than are used, then
-- a start that is not a vertex marked 1.
abbrev pub begin_outcome : Arena → List ℕ → List ℕ → ℕ → Outcome State
begin_outcome a marks ts start =
    cond (nat_lt (length marks) (size a) || nat_lt (length ts) (half a)) (refused 10 0) (
    cond (nat_lt start (size a) && slice_index marks start == 1) (done (state_begun a start ts)) (
    refused 21 0))

-- The new tally where the call was done, the old one where it was refused
abbrev pub tally_done : Outcome State → List ℕ → List ℕ → List ℕ
tally_done (done s) new old = new
tally_done (refused n p) new old = old

-- The tally that begin leaves.
abbrev pub begin_tally : Arena → List ℕ → List ℕ → ℕ → List ℕ
begin_tally a marks ts start = tally_done (begin_outcome a marks ts start) (on_first (half a) (waits_begun a start) ts) ts

-- Making move m: it is refused with that number where the vertex has no such move, and with 22 as the 1,000,001st.
abbrev pub moving : Arena → State → ℕ → List ℕ → ℕ → Reply
moving a s m ts number =
    cond (nat_le (degree_of a s.vertex) m) (stayed number 0 s) (
    cond (nat_le 1000000 s.moves) (stayed 22 0 s) (
    went (state_moved a s m ts)))

-- The move that the plan has at the state's vertex.
abbrev pub planned : List ℕ → State → ℕ
planned plan s = slice_index plan s.vertex

-- steer makes the plan's move. It refuses a vertex that the chart lacks, a plan shorter than the vertices or a tally with fewer
-- entries than are used, an entry that is no move of the vertex, and the 1,000,001st move.
abbrev pub steer_reply : Arena → List ℕ → List ℕ → State → Reply
steer_reply a plan ts s =
    cond (nat_le (size a) s.vertex) (stayed 4 0 s) (
    cond (nat_lt (length plan) (size a) || nat_lt (length ts) (half a)) (stayed 10 0 s) (
    moving a s (planned plan s) ts 13))

-- hear makes the harbour's move m. It refuses a vertex that the chart lacks, a tally with fewer entries than are used, a move
-- that the vertex lacks, and the 1,000,001st move.
abbrev pub hear_reply : Arena → ℕ → List ℕ → State → Reply
hear_reply a m ts s =
    cond (nat_le (size a) s.vertex) (stayed 4 0 s) (
    cond (nat_lt (length ts) (half a)) (stayed 10 0 s) (
    moving a s m ts 7))

-- The new tally where the call went on, the old one where it was refused
abbrev pub tally_left : Reply → List ℕ → List ℕ → List ℕ
tally_left (went s) new old = new
tally_left (stayed n p s) new old = old

-- The tally that steer leaves.
abbrev pub steer_tally : Arena → List ℕ → List ℕ → State → List ℕ
steer_tally a plan ts s = tally_left (steer_reply a plan ts s) (tally_moved a s (planned plan s) ts) ts

-- The tally that hear leaves.
abbrev pub hear_tally : Arena → ℕ → List ℕ → State → List ℕ
hear_tally a m ts s = tally_left (hear_reply a m ts s) (tally_moved a s m ts) ts
