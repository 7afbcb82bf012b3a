-- Whole runs of the helm, and the voyage that a run makes.
use Rattle.std.specs.Prelude.{◌≡◌, ℕ, List, [], ◌∷◌, length, slice_index}
use Rattle.chart.specs.Arena.{Arena, Ranged}
use Rattle.chart.specs.Refusals.{done}
use Rattle.game.specs.Voyages.{Voyage, worst_wait, highest_waiting}
use Rattle.game.specs.Held.{standing, Follows}
use Rattle.helm.specs.declared.turns.Record.{Record}
use Rattle.helm.specs.States.{State, Reply, went, stayed, finished}
use Rattle.helm.specs.Calls.{begin_outcome, begin_tally, planned, steer_reply, steer_tally, hear_reply, hear_tally}

-- A call at a turn: steer at ours, hear with the harbour's move at the harbour's.
pub data Call : Type 0 where
  steer : Call
  hear : ℕ → Call

-- Whose turn the call takes, 0 ours and 1 the harbour's.
abbrev pub turn_for : Call → ℕ
turn_for steer = 0
turn_for (hear m) = 1

-- Where a run stands between two calls: the voyage's state, and the tally.
pub record Run : Type 0 where
  pub state : State
  pub tally : List ℕ

-- What the call answers.
abbrev pub reply : Arena → List ℕ → Run → Call → Reply
reply a plan r steer = steer_reply a plan r.tally r.state
reply a plan r (hear m) = hear_reply a m r.tally r.state

-- The state that a reply hands out, the next one or the one given back.
abbrev pub state_in : Reply → State
state_in (went s) = s
state_in (stayed n p s) = s

-- The tally that the call leaves.
abbrev pub tally_by : Arena → List ℕ → Run → Call → List ℕ
tally_by a plan r steer = steer_tally a plan r.tally r.state
tally_by a plan r (hear m) = hear_tally a m r.tally r.state

-- The run after a call.
abbrev pub called : Arena → List ℕ → Run → Call → Run
called a plan r c = record { state = state_in (reply a plan r c); tally = tally_by a plan r c }

-- The run after a list of calls.
abbrev pub after_all : Arena → List ℕ → Run → List Call → Run
after_all a plan r [] = r
after_all a plan r (c ∷ cs) = after_all a plan (called a plan r c) cs

-- Each call comes at its turn.
abbrev pub AsTurnsFall : Arena → List ℕ → Run → List Call → Type 0
AsTurnsFall a plan r [] = Unit
AsTurnsFall a plan r (c ∷ cs) = (r.state.turn ≡ turn_for c) × AsTurnsFall a plan (called a plan r c) cs

-- The move that a call asks for.
abbrev pub asked : List ℕ → Run → Call → ℕ
asked plan r steer = planned plan r.state
asked plan r (hear m) = m

-- m before ms, if the call that asked for it was not refused.
abbrev pub adding : Reply → ℕ → List ℕ → List ℕ
adding (went s) m ms = m ∷ ms
adding (stayed n p s) m ms = ms

-- The moves made by the calls that were not refused.
abbrev pub made : Arena → List ℕ → Run → List Call → List ℕ
made a plan r [] = []
made a plan r (c ∷ cs) = adding (reply a plan r c) (asked plan r c) (made a plan (called a plan r c) cs)

-- The record is that of the moves ms from the start: they are a voyage, in which the controller goes by the plan, and the
-- record has its number of moves, its worst wait and its highest waiting colour.
pub record RecordOf (a : Arena) (plan : List ℕ) (start : ℕ) (ms : List ℕ) (r : Record) : Type 0 where
  pub voyage : Voyage a start ms
  pub follows : Follows a (standing a (λ v. slice_index plan v) start) start ms
  pub number : r.moves ≡ length ms
  pub worst : r.worst ≡ worst_wait a start ms
  pub waiting : r.waiting ≡ highest_waiting a start ms

-- The run r stands at the start of a voyage. After any list of calls as the turns fall, refused ones included, with one chart, plan
-- and tally that nothing else changes, what finish gives is the record of the voyage made by the calls that were not refused.
abbrev pub Recorded : Arena → List ℕ → ℕ → Run → Type 0
Recorded a plan start r = (cs : List Call) → AsTurnsFall a plan r cs → RecordOf a plan start (made a plan r cs) (finished (after_all a plan r cs).state)

-- So it is on every chart, after every begin that was not refused.
abbrev pub RecordsTheVoyage : Type 0
RecordsTheVoyage =
    (a : Arena) → Ranged a → (marks plan tally : List ℕ) (start : ℕ) (s : State) → begin_outcome a marks tally start ≡ done s →
    Recorded a plan start (record { state = s; tally = begin_tally a marks tally start })
