-- A claim as it stands in tables: a mark and a plan entry for each vertex, a counterplay entry for each vertex and level, and a
-- bound beside them. A table may be longer than needed; what stands past the needed entries is of no account.
use Rattle.std.specs.Prelude.{◌≡◌, ℕ, ◌*◌, ◌/◌, ◌<◌, ◌≤◌, ◌⊎◌, List, length, slice_index}
use Rattle.chart.specs.Arena.{Arena, size}
use Rattle.walks.specs.Tables.{members}
use Rattle.game.specs.Reading.{owner_of, degree_of}
use Rattle.game.specs.Waiting.{levels}

-- The three tables of a claim, by what they hold.
pub record Tables : Type 0 where
  pub marks : List ℕ
  pub plan : List ℕ
  pub counterplay : List ℕ

-- The entry that says: no move here.
abbrev pub empty_entry : ℕ
empty_entry = 65535

-- How many counterplay entries there are: one for each vertex and level, numbered vertex × levels + level.
abbrev pub entries : Arena → ℕ
entries a = size a * levels a

-- The vertex of a counterplay entry.
abbrev pub entry_vertex : Arena → ℕ → ℕ
entry_vertex a e = e / levels a

-- The mark of a vertex, its plan entry, and a counterplay entry.
abbrev pub mark_of : Tables → ℕ → ℕ
mark_of t v = slice_index t.marks v

abbrev pub plan_of : Tables → ℕ → ℕ
plan_of t v = slice_index t.plan v

abbrev pub counter_of : Tables → ℕ → ℕ
counter_of t e = slice_index t.counterplay e

-- A vertex of the chart that is marked 1.
abbrev pub Marked : Arena → Tables → ℕ → Type 0
Marked a t v = (v < size a) × (mark_of t v ≡ 1)

-- A vertex of the chart that is not.
abbrev pub Unmarked : Arena → Tables → ℕ → Type 0
Unmarked a t v = (v < size a) × ¬ Marked a t v

-- How many vertices are marked.
abbrev pub marks_counted : Arena → Tables → ℕ
marks_counted a t = members (mark_of t) (size a)

-- What the plan must have at a vertex: the number of one of its moves where the controller owns it and it is marked, and the
-- empty entry elsewhere.
pub record GoodPlanEntry (a : Arena) (t : Tables) (v : ℕ) : Type 0 where
  pub move : Marked a t v → owner_of a v ≡ 0 → plan_of t v < degree_of a v
  pub empty : ¬ (Marked a t v × (owner_of a v ≡ 0)) → plan_of t v ≡ empty_entry

-- What the counterplay must have at an entry: the number of a move or the empty entry where the harbour owns the vertex, and the
-- empty entry where it does not.
pub record GoodCounterEntry (a : Arena) (t : Tables) (e : ℕ) : Type 0 where
  pub harbours : owner_of a (entry_vertex a e) ≡ 1 → (counter_of t e < degree_of a (entry_vertex a e)) ⊎ (counter_of t e ≡ empty_entry)
  pub ours : ¬ (owner_of a (entry_vertex a e) ≡ 1) → counter_of t e ≡ empty_entry

-- The tables have an entry for each that is needed.
pub record LongEnough (a : Arena) (t : Tables) : Type 0 where
  pub marks : size a ≤ length t.marks
  pub plan : size a ≤ length t.plan
  pub counterplay : entries a ≤ length t.counterplay
