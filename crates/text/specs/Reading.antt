-- What reading a chart text answers, for every string of bytes.
use Rattle.std.specs.Prelude.{◌≡◌, ℕ, zero, suc, ◌+◌, cond, List, [], ◌∷◌, Some, None, Ok, Err, Option, Result, nat_le}
use Rattle.chart.specs.Arena.{Arena}
use Rattle.chart.specs.Refusals.{Outcome, done, refused, number_of}
use Rattle.drawn.specs.Rules.{place_outcome, placed, join_outcome, joined}
use Rattle.text.specs.declared.misread.Misread.{Misread}
use Rattle.text.specs.Lines.{Line, vertices, vertex, moves, move}
use Rattle.text.specs.Tokens.{Lined}

-- What is due: the number of vertices; so many vertices, and then the number of moves; so many
-- moves, none of which leaves a lower vertex than `from`, and then nothing.
pub data Due : Type 0 where
  count_due : Due
  vertex_due : ℕ → Due
  move_due : ℕ → ℕ → Due

-- What is due behind a line, if that line is due.
abbrev pub next : Due → Line → Option Due
next count_due (vertices n) = Some (vertex_due n)
next count_due (vertex owner colour) = None
next count_due (moves n) = None
next count_due (move from to cost) = None
next (vertex_due zero) (vertices n) = None
next (vertex_due zero) (vertex owner colour) = None
next (vertex_due zero) (moves n) = Some (move_due n 0)
next (vertex_due zero) (move from to cost) = None
next (vertex_due (suc k)) (vertices n) = None
next (vertex_due (suc k)) (vertex owner colour) = Some (vertex_due k)
next (vertex_due (suc k)) (moves n) = None
next (vertex_due (suc k)) (move from to cost) = None
next (move_due zero low) (vertices n) = None
next (move_due zero low) (vertex owner colour) = None
next (move_due zero low) (moves n) = None
next (move_due zero low) (move from to cost) = None
next (move_due (suc k) low) (vertices n) = None
next (move_due (suc k) low) (vertex owner colour) = None
next (move_due (suc k) low) (moves n) = None
next (move_due (suc k) low) (move from to cost) = cond (nat_le low from) (Some (move_due k from)) None

-- Nothing is due, and nothing is left.
abbrev pub Finished : Due → List ℕ → Type 0
Finished count_due bytes = ⊥
Finished (vertex_due k) bytes = ⊥
Finished (move_due zero low) [] = Unit {0}
Finished (move_due zero low) (b ∷ bytes) = ⊥
Finished (move_due (suc k) low) bytes = ⊥

-- The bytes begin with a line that is due; `then` is due behind it.
pub record Begins (due : Due) (bytes : List ℕ) (line : Line) (rest : List ℕ) (then : Due) : Type 0 where
  pub expected : next due line ≡ Some then
  pub lined : Lined bytes line rest

abbrev pub drawing : Outcome ℕ → Arena → Outcome Arena
drawing (done x) a = done a
drawing (refused n p) a = refused n p

-- The chart once a line has been drawn by place or join, or their refusal.
abbrev pub drawn_by : Arena → Line → Outcome Arena
drawn_by a (vertices n) = done a
drawn_by a (vertex owner colour) = drawing (place_outcome a owner colour) (placed a owner colour)
drawn_by a (moves n) = done a
drawn_by a (move from to cost) = drawing (join_outcome a from to cost) (joined a from to cost)

-- Reading ends so, with the chart a drawn, `due` due, the line number k and the bytes left.
pub data Reads (end : Outcome Arena) : Arena → Due → ℕ → List ℕ → Type 0 where
  -- all is read
  whole : {a : Arena} {due : Due} {k : ℕ} {bytes : List ℕ} → Finished due bytes → end ≡ done a → Reads end a due k bytes
  -- the next line is not the one due
  wrong : {a : Arena} {due : Due} {k : ℕ} {bytes : List ℕ} → ¬ Finished due bytes →
      ((line : Line) (rest : List ℕ) (then : Due) → ¬ Begins due bytes line rest then) → end ≡ refused 23 k → Reads end a due k bytes
  -- it is, and place or join refuses
  declined : {a : Arena} {due : Due} {k : ℕ} {bytes : List ℕ} (line : Line) (rest : List ℕ) (then : Due) (n p : ℕ) →
      Begins due bytes line rest then → drawn_by a line ≡ refused n p → end ≡ refused n k → Reads end a due k bytes
  -- it is, and is drawn
  onward : {a : Arena} {due : Due} {k : ℕ} {bytes : List ℕ} (line : Line) (rest : List ℕ) (then : Due) (b : Arena) →
      Begins due bytes line rest then → drawn_by a line ≡ done b → Reads end b then (k + 1) rest → Reads end a due k bytes

-- What read answers, where it leaves the chart a: that chart, or the number of the refusal and the
-- line as its place.
abbrev pub told : Result (Unit {0}) Misread → Arena → Outcome Arena
told (Ok u) a = done a
told (Err e) a = refused (number_of e.refusal) e.line

-- A refused reading leaves the chart as it stood.
abbrev pub left : {A : Type 0} → Result (Unit {0}) Misread → A → A → Type 0
left (Ok u) old new = Unit {0}
left (Err e) old new = new ≡ old
