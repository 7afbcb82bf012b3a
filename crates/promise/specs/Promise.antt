-- The main promise: no accepted claim can be beaten, and every drawn chart that can have one is given one.
use Rattle.std.specs.Prelude.{◌≡◌, ℕ, ◌-◌, ◌*◌, ◌<◌, ◌≤◌, ◌⊎◌, ◌↔◌, List}
use Rattle.std.specs.List.{AllByRecursion}
use Rattle.chart.specs.Arena.{Arena, size, Ranged}
use Rattle.chart.specs.Refusals.{Outcome, done}
use Rattle.walks.specs.Showings.{Shows}
use Rattle.game.specs.Reading.{colour_of, degree_of}
use Rattle.game.specs.Voyages.{Voyage, passed, worst_wait}
use Rattle.game.specs.Held.{Plan, Follows, Picks}
use Rattle.game.specs.Waiting.{positions, first_level}
use Rattle.game.specs.Claims.{Counters}
use Rattle.game.specs.Bounds.{Under, greatest_cost}
use Rattle.drawn.specs.Rules.{blank}
use Rattle.helm.specs.States.{State, finished}
use Rattle.helm.specs.Calls.{begin_outcome, begin_tally}
use Rattle.helm.specs.Runs.{Call, Run, AsTurnsFall, after_all, made, RecordOf}
use Rattle.promise.specs.Tables.{Tables, plan_of, counter_of, Marked, Unmarked, LongEnough}
use Rattle.promise.specs.Rules.{Checked}
use Rattle.promise.specs.Solving.{Solved}
use Rattle.promise.specs.Sheets.{Call as ChartCall, after_calls, plain_sheet}

-- check accepts the claim of the tables and the bound, with some room for working memory.
abbrev pub ClaimAccepted : Arena → Tables → ℕ → Type 0
ClaimAccepted a t bound = (room : ℕ) × (answer : ℕ × ℕ) × Checked a t bound room (done answer)

-- From where a run of the helm stands, at the start of a voyage: what finish gives after the calls is the record of the voyage that
-- they made, and its worst wait is at most the bound.
pub record RunHolds (a : Arena) (t : Tables) (bound start : ℕ) (run : Run) (calls : List Call) : Type 0 where
  pub record_of : RecordOf a t.plan start (made a t.plan run calls) (finished (after_all a t.plan run calls).state)
  pub waits : (finished (after_all a t.plan run calls).state).worst ≤ bound

-- The plan of a claim holds what it promises.
pub record PlanHolds (a : Arena) (t : Tables) (bound : ℕ) : Type 0 where
  -- No voyage that follows the plan from a marked vertex leaves the marked ones,
  pub stays : (v : ℕ) (ms : List ℕ) → Marked a t v → Under a (plan_of t) v ms → AllByRecursion (Marked a t) (passed a v ms)
  -- waits above the bound,
  pub waits : (v : ℕ) (ms : List ℕ) → Marked a t v → Under a (plan_of t) v ms → worst_wait a v ms ≤ bound
  -- or shows an odd colour more often than there are vertices with nothing higher between.
  pub shows : (v : ℕ) (ms : List ℕ) → Marked a t v → Under a (plan_of t) v ms → ¬ Shows (colour_of a) (size a) (passed a v ms)
  -- Nor does finish record a longer wait, or any but that of the voyage made, after a begin there and any list of steer and hear
  -- calls as the turns fall, refused ones included, with this chart and plan and a tally that nothing else changes.
  pub runs : (marks tally : List ℕ) (start : ℕ) (s : State) → Marked a t start → begin_outcome a marks tally start ≡ done s → (calls : List Call) →
      AsTurnsFall a t.plan (record { state = s; tally = begin_tally a marks tally start }) calls →
      RunHolds a t bound start (record { state = s; tally = begin_tally a marks tally start }) calls
  -- With a vertex marked, some voyage that follows the plan from one has the bound as its worst wait,
  pub met : (v : ℕ) → Marked a t v → (u : ℕ) × (ms : List ℕ) × Marked a t u × Under a (plan_of t) u ms × (worst_wait a u ms ≡ bound)
  -- and the bound is at most the greatest cost of a move, times one less than there are vertices.
  pub low : bound ≤ (size a - 1) * greatest_cost a

-- (a) On every chart, the plan of an accepted claim holds what it promises.
abbrev pub AcceptedPlansHold : Type 0
AcceptedPlansHold = (a : Arena) → Ranged a → (t : Tables) (bound : ℕ) → ClaimAccepted a t bound → PlanHolds a t bound

-- From v, for every plan with memory and every two limits, a voyage that follows the plan and the counterplay has a wait above the
-- first, or shows an odd colour more often than the second with nothing higher between.
abbrev pub CounterplayBeats : Arena → Tables → ℕ → Type 0
CounterplayBeats a t v =
    (plan : Plan) → Picks a plan v → (limit often : ℕ) →
    (ms : List ℕ) × Voyage a v ms × Follows a plan v ms × Counters a (counter_of t) v (first_level a v) ms ×
    ((limit < worst_wait a v ms) ⊎ Shows (colour_of a) often (passed a v ms))

-- (b) On every chart, the counterplay of an accepted claim beats every plan from every unmarked vertex.
abbrev pub AcceptedCounterplaysBeat : Type 0
AcceptedCounterplaysBeat =
    (a : Arena) → Ranged a → (t : Tables) (bound : ℕ) → ClaimAccepted a t bound → (v : ℕ) → Unmarked a t v → CounterplayBeats a t v

-- Every vertex has a move.
abbrev pub EveryVertexMoves : Arena → Type 0
EveryVertexMoves a = (v : ℕ) → v < size a → 0 < degree_of a v

-- Tables and room for working memory as long as solve and check ask.
abbrev pub Suffices : Arena → Tables → ℕ → Type 0
Suffices a t room = LongEnough a t × (12 * positions a ≤ room)

-- The answer is that of a claim that stands in the tables and that check accepts.
abbrev pub WritesAClaim : Arena → Tables → ℕ → Outcome (ℕ × ℕ) → Type 0
WritesAClaim a t room o = (answer : ℕ × ℕ) × (o ≡ done answer) × Checked a t answer.1 room (done answer)

-- After a list of calls on a drawn chart, from its making:
pub record SheetSolved (calls : List ChartCall) : Type 0 where
  -- the chart is the plain sheet;
  pub chart : after_calls blank calls ≡ plain_sheet calls
  -- solve has an answer, and tables to leave, whatever tables and room it is given;
  pub answers : (before : Tables) (room : ℕ) → (after : Tables) × (o : Outcome (ℕ × ℕ)) × Solved (after_calls blank calls) before after room o
  -- and it writes a claim that check accepts exactly when every vertex of the plain sheet has a move and the tables suffice.
  pub solved : (before after : Tables) (room : ℕ) (o : Outcome (ℕ × ℕ)) → Solved (after_calls blank calls) before after room o →
      WritesAClaim (after_calls blank calls) after room o ↔ (EveryVertexMoves (plain_sheet calls) × Suffices (plain_sheet calls) before room)

-- (c) So it is however place, join, strike, solve and check calls are arranged, refused ones too.
abbrev pub DrawnChartsAreSolved : Type 0
DrawnChartsAreSolved = (calls : List ChartCall) → SheetSolved calls

-- The whole: no accepted claim is beaten, and solve gives one wherever there can be one.
pub record NoAcceptedClaimIsBeaten : Type 0 where
  pub plans : AcceptedPlansHold
  pub counterplays : AcceptedCounterplaysBeat
  pub drawn : DrawnChartsAreSolved
