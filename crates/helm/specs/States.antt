-- What the turns of a voyage say, in numbers.
use Rattle.std.specs.Prelude.{ℕ, Ok, Err, Result}
use Rattle.chart.specs.declared.refusal.Refusal.{Refusal}
use Rattle.chart.specs.Refusals.{Outcome, done, refused, number_of, place_of}
use Rattle.helm.specs.declared.turns.OurTurn.{OurTurn}
use Rattle.helm.specs.declared.turns.HarbourTurn.{HarbourTurn}
use Rattle.helm.specs.declared.turns.Turn.{Turn}
use Rattle.helm.specs.declared.turns.Turn.TheVariants.{Ours, Harbours}
use Rattle.helm.specs.declared.turns.Slip.{Slip}
use Rattle.helm.specs.declared.turns.Record.{Record}

-- A voyage under way: whose turn it is (0 ours, 1 the harbour's), the vertex reached, the moves made, the worst wait so
-- far and the highest colour that waits, 0 for none.
pub record State : Type 0 where
  pub turn : ℕ
  pub vertex : ℕ
  pub moves : ℕ
  pub worst : ℕ
  pub waiting : ℕ

-- The state at a turn, a vertex and the record so far.
abbrev pub state_at : ℕ → ℕ → Record → State
state_at turn vertex r = record { turn = turn; vertex = vertex; moves = r.moves; worst = r.worst; waiting = r.waiting }

-- What our turn says.
abbrev pub ours : OurTurn → State
ours t = state_at 0 t.at.vertex t.at.so_far

-- What the harbour's turn says.
abbrev pub harbours : HarbourTurn → State
harbours t = state_at 1 t.at.vertex t.at.so_far

-- What a turn of either kind says.
abbrev pub state_of : Turn → State
state_of (Ours t) = ours t
state_of (Harbours t) = harbours t

-- What finish gives at a state.
abbrev pub finished : State → Record
finished s = record { moves = s.moves; worst = s.worst; waiting = s.waiting }

-- How a begin ends: with the first state, or refused with a number and a place.
abbrev pub begun : Result (Turn × Slip) Refusal → Outcome State
begun (Ok x) = done (state_of x.0)
begun (Err e) = refused (number_of e) (place_of e)

-- How a steer or a hear ends: with the next state, or refused with a number and a place and with its state given back.
pub data Reply : Type 0 where
  went : State → Reply
  stayed : ℕ → ℕ → State → Reply

-- A steer's answer as a reply.
abbrev pub steered : Result Turn (OurTurn × Refusal) → Reply
steered (Ok t) = went (state_of t)
steered (Err x) = stayed (number_of x.1) (place_of x.1) (ours x.0)

-- A hear's answer as a reply.
abbrev pub heard : Result Turn (HarbourTurn × Refusal) → Reply
heard (Ok t) = went (state_of t)
heard (Err x) = stayed (number_of x.1) (place_of x.1) (harbours x.0)

-- How a call from the state s ends, before the turn is given back.
abbrev pub replied : State → Result Turn Refusal → Reply
replied s (Ok t) = went (state_of t)
replied s (Err e) = stayed (number_of e) (place_of e) s
