-- One line of reading: it is not due, it is refused, or it is drawn.
use Rattle.std.proofs.Common.{◌≡◌, ℕ, zero, suc, ◌+◌, ◌-◌, ◌<◌, ◌≤◌, cond, List, [], ◌∷◌, length, get_or, Some, None, Ok, Err, Result, codes, sym, refl, ap, ◌∙◌, inl, inr, arith}
use Rattle.std.specs.Result.{MatchResult, IsErrAnd}
use Rattle.std.proofs.lemmas.Bool.{le-leb, lt-leb, cases_lt}
use Rattle.chart.specs.Arena.{Arena}
use Rattle.chart.specs.Refusals.{Outcome, done, refused}
use Rattle.drawn.specs.Rules.{blank, place_outcome, placed, join_outcome, joined}
use Rattle.text.specs.Lines.{Line, vertices, vertex, moves, move}
use Rattle.text.specs.Tokens.{Lined, Spells}
use Rattle.text.specs.Reading.{Due, count_due, vertex_due, move_due, next, Finished, Begins, drawing, Reads, whole, wrong, declined, onward}
use Rattle.text.proofs.Fields.{word_of, numbers_of, one_spelling, lined_spells}

pub none_some : {A : Type 0} {x : A} → None ≡ Some x → ⊥
none_some e = cc

pub some_same : {A : Type 0} {x y : A} → Some x ≡ Some y → x ≡ y
some_same e = cc

pub done_same : {A : Type 0} {x y : A} → done x ≡ done y → x ≡ y
done_same e = cc

pub done_refused : {A : Type 0} {x : A} {n p : ℕ} → done x ≡ refused n p → ⊥
done_refused e = cc

-- what a `map_err` leaves, and what it was made of
module _ {T E F : Type 0} (Q : E → F → Type 0) where
  pub made_of : (r : Result T E) (m : Result T F) (f : F) → MatchResult r (λ x. m ≡ Ok x) (λ e. IsErrAnd m (Q e)) → m ≡ Err f → (e : E) × (r ≡ Err e) × Q e f
  made_of (Ok x) m f h is = absurd (let e : Ok x ≡ Err f = sym h ∙ is in cc)
  made_of (Err e) m f h is = (e, refl, rw is at h)

  pub kept_ok : (r : Result T E) (m : Result T F) (x : T) → MatchResult r (λ x. m ≡ Ok x) (λ e. IsErrAnd m (Q e)) → m ≡ Ok x → r ≡ Ok x
  kept_ok (Ok y) m x h is = let e : Ok y ≡ Ok x = sym h ∙ is in cc
  kept_ok (Err e) m x h is = absurd (rw is at h)

-- the line that is due: its word, how many numbers it has, and the line of such numbers
abbrev pub due_word : Due → List ℕ
due_word count_due = codes "vertices="
due_word (vertex_due zero) = codes "moves="
due_word (vertex_due (suc k)) = codes "vertex="
due_word (move_due zero low) = []
due_word (move_due (suc k) low) = codes "move="

abbrev pub due_many : Due → ℕ
due_many count_due = 1
due_many (vertex_due zero) = 1
due_many (vertex_due (suc k)) = 2
due_many (move_due zero low) = 0
due_many (move_due (suc k) low) = 3

-- where no line is due, any line will do
abbrev pub due_line : Due → List ℕ → Line
due_line count_due ns = vertices (get_or ns 0 0)
due_line (vertex_due zero) ns = moves (get_or ns 0 0)
due_line (vertex_due (suc k)) ns = vertex (get_or ns 0 0) (get_or ns 1 0)
due_line (move_due zero low) ns = moves 0
due_line (move_due (suc k) low) ns = move (get_or ns 0 0) (get_or ns 1 0) (get_or ns 2 0)

pub record IsDue (due : Due) (line : Line) : Type 0 where
  pub word : word_of line ≡ due_word due
  pub many : length (numbers_of line) ≡ due_many due
  pub is : line ≡ due_line due (numbers_of line)

pub none_due : (low : ℕ) (line : Line) → next (move_due zero low) line ≡ None
none_due low (vertices n) = refl
none_due low (vertex o c) = refl
none_due low (moves n) = refl
none_due low (move f t c) = refl

pub is_due : (due : Due) (line : Line) (then : Due) → next due line ≡ Some then → IsDue due line
is_due count_due (vertices n) then e = record { word = refl; many = refl; is = refl }
is_due count_due (vertex o c) then e = absurd (none_some e)
is_due count_due (moves n) then e = absurd (none_some e)
is_due count_due (move f t c) then e = absurd (none_some e)
is_due (vertex_due zero) (vertices n) then e = absurd (none_some e)
is_due (vertex_due zero) (vertex o c) then e = absurd (none_some e)
is_due (vertex_due zero) (moves n) then e = record { word = refl; many = refl; is = refl }
is_due (vertex_due zero) (move f t c) then e = absurd (none_some e)
is_due (vertex_due (suc k)) (vertices n) then e = absurd (none_some e)
is_due (vertex_due (suc k)) (vertex o c) then e = record { word = refl; many = refl; is = refl }
is_due (vertex_due (suc k)) (moves n) then e = absurd (none_some e)
is_due (vertex_due (suc k)) (move f t c) then e = absurd (none_some e)
is_due (move_due zero low) line then e = absurd (none_some (sym (none_due low line) ∙ e))
is_due (move_due (suc k) low) (vertices n) then e = absurd (none_some e)
is_due (move_due (suc k) low) (vertex o c) then e = absurd (none_some e)
is_due (move_due (suc k) low) (moves n) then e = absurd (none_some e)
is_due (move_due (suc k) low) (move f t c) then e = record { word = refl; many = refl; is = refl }

module _ (due : Due) (bytes : List ℕ) where
  pub begun : (line : Line) (rest : List ℕ) (then : Due) → Begins due bytes line rest then → Spells (due_word due) bytes (numbers_of line) rest
  begun line rest then b = rw (is_due due line then b.expected).word at (lined_spells bytes line rest b.lined)

  none_begins : ((ns rest : List ℕ) → length ns ≡ due_many due → ¬ Spells (due_word due) bytes ns rest) → (line : Line) (rest : List ℕ) (then : Due) → ¬ Begins due bytes line rest then
  none_begins none line rest then b = none (numbers_of line) rest (is_due due line then b.expected).many (begun line rest then b)

module _ (end : Outcome Arena) (a : Arena) (k : ℕ) (bytes : List ℕ) where
  -- the number of vertices
  pub no_count : ((ns rest : List ℕ) → length ns ≡ 1 → ¬ Spells (codes "vertices=") bytes ns rest) → end ≡ refused 23 k → Reads end a count_due k bytes
  no_count no_line is = wrong (λ f. f) (none_begins count_due bytes no_line) is

  pub next_count : (n : ℕ) (rest : List ℕ) → Lined bytes (vertices n) rest → Reads end a (vertex_due n) (k + 1) rest → Reads end a count_due k bytes
  next_count n rest c r = onward (vertices n) rest (vertex_due n) a (record { expected = refl; lined = c }) refl r

  -- a vertex
  pub no_vertex : (left : ℕ) → 0 < left → ((ns rest : List ℕ) → length ns ≡ 2 → ¬ Spells (codes "vertex=") bytes ns rest) → end ≡ refused 23 k → Reads end a (vertex_due left) k bytes
  no_vertex zero h no_line is = absurd (omega arith)
  no_vertex (suc left) h no_line is = wrong (λ f. f) (none_begins (vertex_due (suc left)) bytes no_line) is

  pub refused_vertex : (left o c : ℕ) (rest : List ℕ) (n p : ℕ) → 0 < left → Lined bytes (vertex o c) rest → place_outcome a o c ≡ refused n p → end ≡ refused n k → Reads end a (vertex_due left) k bytes
  refused_vertex zero o c rest n p h l e is = absurd (omega arith)
  refused_vertex (suc left) o c rest n p h l e is = declined (vertex o c) rest (vertex_due left) n p (record { expected = refl; lined = l }) (ap (λ x. drawing x (placed a o c)) e) is

  pub next_vertex : (left o c : ℕ) (rest : List ℕ) (x : ℕ) → 0 < left → Lined bytes (vertex o c) rest → place_outcome a o c ≡ done x → Reads end (placed a o c) (vertex_due (left - 1)) (k + 1) rest → Reads end a (vertex_due left) k bytes
  next_vertex zero o c rest x h l e r = absurd (omega arith)
  next_vertex (suc left) o c rest x h l e r =
      let same : suc left - 1 ≡ left = omega arith in
      onward (vertex o c) rest (vertex_due left) (placed a o c) (record { expected = refl; lined = l }) (ap (λ y. drawing y (placed a o c)) e) (rw same at r)

  -- the number of moves
  pub no_moves : ((ns rest : List ℕ) → length ns ≡ 1 → ¬ Spells (codes "moves=") bytes ns rest) → end ≡ refused 23 k → Reads end a (vertex_due zero) k bytes
  no_moves no_line is = wrong (λ f. f) (none_begins (vertex_due zero) bytes no_line) is

  pub next_moves : (n : ℕ) (rest : List ℕ) → Lined bytes (moves n) rest → Reads end a (move_due n 0) (k + 1) rest → Reads end a (vertex_due zero) k bytes
  next_moves n rest c r = onward (moves n) rest (move_due n 0) a (record { expected = refl; lined = c }) refl r

  -- a move
  pub no_move : (left low : ℕ) → 0 < left → ((ns rest : List ℕ) → length ns ≡ 3 → low ≤ get_or ns 0 0 → ¬ Spells (codes "move=") bytes ns rest) → end ≡ refused 23 k → Reads end a (move_due left low) k bytes
  no_move zero low h no_line is = absurd (omega arith)
  no_move (suc left) low h no_line is = wrong (λ f. f) cases is
    where
      high : (f : ℕ) (then : Due) → next (move_due (suc left) low) (move f 0 0) ≡ Some then → low ≤ f
      high f then e = elim (cases_lt f low) [
        | inl l ↦ absurd (none_some (ap (λ b. cond b (Some (move_due left f)) None) (sym (lt-leb low f l)) ∙ e))
        | inr l ↦ l
      ]

      cases : (line : Line) (rest : List ℕ) (then : Due) → ¬ Begins (move_due (suc left) low) bytes line rest then
      cases line rest then b =
          let d = is_due (move_due (suc left) low) line then b.expected in
          no_line (numbers_of line) rest d.many (high (get_or (numbers_of line) 0 0) then (sym (ap (next (move_due (suc left) low)) d.is) ∙ b.expected)) (begun (move_due (suc left) low) bytes line rest then b)

  pub low_move : (left low f t c : ℕ) (rest : List ℕ) → 0 < left → f < low → Lined bytes (move f t c) rest → end ≡ refused 23 k → Reads end a (move_due left low) k bytes
  low_move left low f t c rest h l here is = no_move left low h (λ ns other long high line. omega (arith, ap (λ ms. get_or ms 0 0) (one_spelling (codes "move=") bytes (f ∷ t ∷ c ∷ []) ns rest other (sym long) (lined_spells bytes (move f t c) rest here) line).0)) is

  module _ (left low f t c : ℕ) (rest : List ℕ) (high : low ≤ f) where
    due : next (move_due (suc left) low) (move f t c) ≡ Some (move_due left f)
    due = ap (λ b. cond b (Some (move_due left f)) None) (le-leb low f high)

  pub refused_move : (left low f t c : ℕ) (rest : List ℕ) (n p : ℕ) → 0 < left → low ≤ f → Lined bytes (move f t c) rest → join_outcome a f t c ≡ refused n p → end ≡ refused n k → Reads end a (move_due left low) k bytes
  refused_move zero low f t c rest n p h high l e is = absurd (omega arith)
  refused_move (suc left) low f t c rest n p h high l e is = declined (move f t c) rest (move_due left f) n p (record { expected = due left low f t c rest high; lined = l }) (ap (λ x. drawing x (joined a f t c)) e) is

  pub next_move : (left low f t c : ℕ) (rest : List ℕ) (x : ℕ) → 0 < left → low ≤ f → Lined bytes (move f t c) rest → join_outcome a f t c ≡ done x → Reads end (joined a f t c) (move_due (left - 1) f) (k + 1) rest → Reads end a (move_due left low) k bytes
  next_move zero low f t c rest x h high l e r = absurd (omega arith)
  next_move (suc left) low f t c rest x h high l e r =
      let same : suc left - 1 ≡ left = omega arith in
      onward (move f t c) rest (move_due left f) (joined a f t c) (record { expected = due left low f t c rest high; lined = l }) (ap (λ y. drawing y (joined a f t c)) e) (rw same at r)

  -- the end
  pub all_read : (low : ℕ) → bytes ≡ [] → end ≡ done a → Reads end a (move_due zero low) k bytes
  all_read low none is = whole (rw none tt) is

  pub more_left : (low : ℕ) → ¬ (bytes ≡ []) → end ≡ refused 23 k → Reads end a (move_due zero low) k bytes
  more_left low some is = wrong (not_done bytes some) (λ line rest then b. none_some (sym (none_due low line) ∙ b.expected)) is
    where
      not_done : (bs : List ℕ) → ¬ (bs ≡ []) → ¬ Finished (move_due zero low) bs
      not_done [] some f = some refl
      not_done (b ∷ bs) some f = f

-- reading from the start, through the number of vertices, the vertices, and the number of moves
module _ (end : Outcome Arena) (text : List ℕ) (n : ℕ) (rest : List ℕ) (counted : Lined text (vertices n) rest) (start : Arena) (begun : start ≡ blank) where
  pub from_vertices : Reads end start (vertex_due n) 2 rest → Reads end blank count_due 1 text
  from_vertices r = next_count end blank 1 text n rest counted (rw begun at r)

  module _ (a : Arena) (more : List ℕ) (placed_all : Reads end a (vertex_due zero) (2 + n) more → Reads end start (vertex_due n) 2 rest) where
    pub from_moves_count : Reads end a (vertex_due zero) (n + 2) more → Reads end blank count_due 1 text
    from_moves_count r = let swap : n + 2 ≡ 2 + n = omega arith in from_vertices (placed_all (rw swap at r))

    pub from_moves : (m : ℕ) (yet : List ℕ) → Lined more (moves m) yet → Reads end a (move_due m 0) (n + 2 + 1) yet → Reads end blank count_due 1 text
    from_moves m yet c r = from_moves_count (next_moves end a (n + 2) more m yet c r)
