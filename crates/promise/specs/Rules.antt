-- The rules of acceptance: thirteen causes of refusal, each with its number, in the order in which they are tried. A claim is
-- refused for the first cause that applies anywhere, at the lowest place where it does, and accepted if none applies.
use Rattle.std.specs.Prelude.{◌≡◌, ℕ, ◌*◌, ◌/◌, ◌%◌, ◌<◌, ◌≤◌, ◌⊎◌}
use Rattle.chart.specs.Arena.{Arena, size}
use Rattle.chart.specs.Refusals.{Outcome, done, refused}
use Rattle.walks.specs.Games.{Inside, Loop}
use Rattle.game.specs.Reading.{owner_of, colour_of, degree_of}
use Rattle.game.specs.Waiting.{stage_in, positions, waiting}
use Rattle.game.specs.Claims.{PlanStep, CostlyLoop, CounterStep, Reached}
use Rattle.game.specs.Bounds.{GreatestWait}
use Rattle.promise.specs.Tables.{Tables, empty_entry, entries, mark_of, plan_of, counter_of, Marked, marks_counted, GoodPlanEntry, GoodCounterEntry, LongEnough}

-- Why a claim may be refused.
pub data Cause : Type 0 where
  dead_end : Cause
  too_large : Cause
  short_table : Cause
  short_memory : Cause
  wrong_mark : Cause
  wrong_plan_entry : Cause
  wrong_counter_entry : Cause
  leaves_marks : Cause
  odd_loop : Cause
  costly_loop : Cause
  wrong_bound : Cause
  no_counter_move : Cause
  even_loop : Cause

-- The number of each; they are tried in the order of their numbers.
abbrev pub number : Cause → ℕ
number dead_end = 8
number too_large = 9
number short_table = 10
number short_memory = 11
number wrong_mark = 12
number wrong_plan_entry = 13
number wrong_counter_entry = 14
number leaves_marks = 15
number odd_loop = 16
number costly_loop = 17
number wrong_bound = 18
number no_counter_move = 19
number even_loop = 20

-- A position of the waiting chart that is reached from the first positions of unmarked vertices by every move of the controller,
-- every toll and the counterplay's moves. The empty entry is no move, so nothing is reached through it.
abbrev pub Met : Arena → Tables → ℕ → Type 0
Met a t = Reached a (Marked a t) (counter_of t)

-- The cause applies to the claim at the place, where the working memory has room for so many numbers. In their order:
--   8  the vertex has no move;
--   9  the chart has more than 4,096 positions, or a height above 28;
--  10  a table has too few entries;
--  11  the working memory has room for fewer than 12 numbers for each position;
--  12  the vertex has a mark that is neither 0 nor 1;
--  13  the vertex has a wrong plan entry;
--  14  the counterplay entry of that number is wrong;
--  15  the vertex is marked, and the plan's move, or one of the harbour's where it owns the vertex, ends unmarked;
--  16  the vertex is marked, of odd colour, and on a loop under the plan with no higher colour;
--  17  the vertex is marked, of odd colour, and from it, under the plan and meeting no answer to it, a loop of cost above 0
--      without an answer can be met;
--  18  the place is the worst wait over all voyages from marked vertices under the plan, 0 without marks, and is not the bound;
--  19  the position of that number is reached, at stage 0 and the harbour's, and its entry is empty;
--  20  the position of that number is reached, of even colour, and on a loop of reached positions by those same moves with no
--      higher colour.
-- The place of 9, 10 and 11 is 0.
abbrev pub Applies : Arena → Tables → (bound room : ℕ) → Cause → ℕ → Type 0
Applies a t bound room dead_end v = (v < size a) × (degree_of a v ≡ 0)
Applies a t bound room too_large p = (p ≡ 0) × ((4096 < positions a) ⊎ (28 < a.height))
Applies a t bound room short_table p = (p ≡ 0) × ¬ LongEnough a t
Applies a t bound room short_memory p = (p ≡ 0) × (room < 12 * positions a)
Applies a t bound room wrong_mark v = (v < size a) × ¬ ((mark_of t v ≡ 0) ⊎ (mark_of t v ≡ 1))
Applies a t bound room wrong_plan_entry v = (v < size a) × ¬ GoodPlanEntry a t v
Applies a t bound room wrong_counter_entry e = (e < entries a) × ¬ GoodCounterEntry a t e
Applies a t bound room leaves_marks v = Marked a t v × (y : ℕ) × PlanStep a (plan_of t) v y × ¬ Marked a t y
Applies a t bound room odd_loop v = Marked a t v × (colour_of a v % 2 ≡ 1) × Loop (colour_of a) (PlanStep a (plan_of t)) v
Applies a t bound room costly_loop v = Marked a t v × (colour_of a v % 2 ≡ 1) × CostlyLoop a (plan_of t) v
Applies a t bound room wrong_bound w = GreatestWait a (Marked a t) (plan_of t) w × ¬ (bound ≡ w)
Applies a t bound room no_counter_move p = Met a t p × (stage_in p ≡ 0) × (owner_of (waiting a) p ≡ 1) × (counter_of t (p / 2) ≡ empty_entry)
Applies a t bound room even_loop p =
    Met a t p × (colour_of (waiting a) p % 2 ≡ 0) × Loop (colour_of (waiting a)) (Inside (Met a t) (CounterStep a (counter_of t))) p

-- The claim is refused for the cause at the place: the cause applies there and at no lower place, and no cause of a lower number
-- applies anywhere.
pub record Refused (a : Arena) (t : Tables) (bound room : ℕ) (cause : Cause) (place : ℕ) : Type 0 where
  pub applies : Applies a t bound room cause place
  pub lowest : (p : ℕ) → Applies a t bound room cause p → place ≤ p
  pub first : (c : Cause) → number c < number cause → (p : ℕ) → ¬ Applies a t bound room c p

-- The claim is accepted: no cause applies anywhere.
abbrev pub Accepted : Arena → Tables → (bound room : ℕ) → Type 0
Accepted a t bound room = (c : Cause) (p : ℕ) → ¬ Applies a t bound room c p

-- What check answers to the claim of the tables and the bound: the number of marks and the bound where it is accepted, else the
-- number of the cause and the place.
abbrev pub Checked : Arena → Tables → (bound room : ℕ) → Outcome (ℕ × ℕ) → Type 0
Checked a t bound room (done answer) = Accepted a t bound room × (answer ≡ (marks_counted a t, bound))
Checked a t bound room (refused n p) = (c : Cause) × (number c ≡ n) × Refused a t bound room c p
