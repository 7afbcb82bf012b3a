-- Refusals as the product's users know them: a number for the cause, and a place.
use Rattle.std.specs.Prelude.{ℕ, Ok, Err, Result}
use Rattle.chart.specs.declared.refusal.Refusal.{Refusal}
use Rattle.chart.specs.declared.refusal.Refusal.TheVariants.{UnknownOwner, ColourTooHigh, TooManyVertices, AbsentVertex, CostTooHigh, TooManyMoves, AbsentMove, DeadEnd, ShortTable, ShortMemory, WrongPlanEntry, UnmarkedStart, TooManySteps, WrongLine, ShortBuffer}

abbrev pub number_of : Refusal → ℕ
number_of UnknownOwner = 1
number_of ColourTooHigh = 2
number_of TooManyVertices = 3
number_of AbsentVertex = 4
number_of CostTooHigh = 5
number_of TooManyMoves = 6
number_of AbsentMove = 7
number_of (DeadEnd vertex) = 8
number_of ShortTable = 10
number_of ShortMemory = 11
number_of (WrongPlanEntry vertex) = 13
number_of UnmarkedStart = 21
number_of TooManySteps = 22
number_of (WrongLine line) = 23
number_of ShortBuffer = 24

-- 0 where the rule names no place.
abbrev pub place_of : Refusal → ℕ
place_of UnknownOwner = 0
place_of ColourTooHigh = 0
place_of TooManyVertices = 0
place_of AbsentVertex = 0
place_of CostTooHigh = 0
place_of TooManyMoves = 0
place_of AbsentMove = 0
place_of (DeadEnd vertex) = vertex
place_of ShortTable = 0
place_of ShortMemory = 0
place_of (WrongPlanEntry vertex) = vertex
place_of UnmarkedStart = 0
place_of TooManySteps = 0
place_of (WrongLine line) = line
place_of ShortBuffer = 0

-- How a call ends: it is done and answers, or it is refused with a number and a place.
pub data Outcome (A : Type 0) : Type 0 where
  done : A → Outcome A
  refused : ℕ → ℕ → Outcome A

abbrev pub outcome : {A : Type 0} → Result A Refusal → Outcome A
outcome (Ok x) = done x
outcome (Err e) = refused (number_of e) (place_of e)
