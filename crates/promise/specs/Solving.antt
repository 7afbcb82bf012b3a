-- What solve answers, and the tables that it leaves.
use Rattle.std.specs.Prelude.{◌≡◌, ℕ, ◌*◌, ◌<◌, ◌≤◌, List, length, drop}
use Rattle.chart.specs.Arena.{Arena, size}
use Rattle.chart.specs.Refusals.{Outcome, done, refused}
use Rattle.promise.specs.Tables.{Tables, empty_entry, entries, counter_of}
use Rattle.promise.specs.Rules.{Met, Checked}

-- A table as long as before, and the same from entry n on.
pub record SameFrom (n : ℕ) (before after : List ℕ) : Type 0 where
  pub long : length after ≡ length before
  pub rest : drop n after ≡ drop n before

-- The tables as long as before, and the same past the entries that a claim needs.
pub record WrittenOver (a : Arena) (before after : Tables) : Type 0 where
  pub marks : SameFrom (size a) before.marks after.marks
  pub plan : SameFrom (size a) before.plan after.plan
  pub counterplay : SameFrom (entries a) before.counterplay after.counterplay

-- The counterplay is empty at every vertex and level whose position at stage 0 is not reached.
abbrev pub EmptyUnreached : Arena → Tables → Type 0
EmptyUnreached a t = (e : ℕ) → e < entries a → ¬ Met a t (e * 2) → counter_of t e ≡ empty_entry

-- The tables before a call and after it, with its answer, where the working memory has room for so many numbers. Where solve is
-- done it answers the number of marks and the bound of a claim that check accepts, and has written it over the tables. It refuses
-- with 8, 9, 10 or 11, as check refuses these tables whatever the bound, and then leaves them as they stood.
abbrev pub Solved : Arena → (before after : Tables) → (room : ℕ) → Outcome (ℕ × ℕ) → Type 0
Solved a before after room (done answer) =
    Checked a after answer.1 room (done answer) × EmptyUnreached a after × WrittenOver a before after
Solved a before after room (refused n p) = (n ≤ 11) × ((bound : ℕ) → Checked a before bound room (refused n p)) × (after ≡ before)
