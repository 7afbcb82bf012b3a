-- The bytes that are read and accepted are the text of the chart that was read.
use Rattle.std.proofs.Common.{◌≡◌, ℕ, zero, suc, ◌+◌, ◌<◌, ◌≤◌, Bool, true, false, cond, leb, List, [], ◌∷◌, ◌++◌, map, length, get_or, Some, None, sym, refl, ap, ◌∙◌, ap₂, inl, inr, append_assoc, arith}
use lib.ListN.{length-map}
use Rattle.std.specs.List.{flat_map, AllByRecursion}
use Rattle.std.proofs.lemmas.Grind.{flat_map-append}
use Rattle.std.proofs.lemmas.List.{append-nil, length_push, map_push}
use Rattle.std.proofs.ByRecursion.{All-push}
use Rattle.std.proofs.lemmas.Bool.{leb-true, cases_lt}
use Rattle.chart.specs.declared.parts.Move.{Move}
use Rattle.chart.specs.Arena.{Arena, Vertex, size}
use Rattle.chart.specs.Refusals.{Outcome, done, refused}
use Rattle.drawn.specs.Rules as rules
use Rattle.drawn.specs.Rules.{blank, move_count, adjusted, with_move, with_vertex, with_adjusted, after, place_outcome, join_outcome}
use Rattle.drawn.proofs.Outcomes.{join_from}
use Rattle.text.specs.Lines.{Line, vertices, vertex, moves, move, spelt}
use Rattle.text.specs.Reading.{Due, count_due, vertex_due, move_due, next, Finished, drawing, drawn_by, Reads, whole, wrong, declined, onward}
use Rattle.text.specs.Writing.{vertex_line, move_line, move_lines, text_of}
use Rattle.text.proofs.Fields.{numbers_of}
use Rattle.text.proofs.Steps.{none_some, some_same, done_same, done_refused, due_line, is_due}
use Rattle.text.proofs.Putting.{text_parts}

abbrev Bare : Vertex → Type 0
Bare v = v.moves ≡ []

-- the vertices past the one of a number have no moves
abbrev BarePast : ℕ → List Vertex → Type 0
BarePast low [] = Unit {0}
BarePast zero (v ∷ vs) = AllByRecursion Bare vs
BarePast (suc low) (v ∷ vs) = BarePast low vs

bare_all : (low : ℕ) (vs : List Vertex) → AllByRecursion Bare vs → BarePast low vs
bare_all low [] all = tt
bare_all zero (v ∷ vs) all = all.1
bare_all (suc low) (v ∷ vs) all = bare_all low vs all.1

bare_higher : (low high : ℕ) (vs : List Vertex) → low ≤ high → BarePast low vs → BarePast high vs
bare_higher low high [] h b = tt
bare_higher zero high (v ∷ vs) h b = past high
  where
    past : (k : ℕ) → BarePast k (v ∷ vs)
    past zero = b
    past (suc k) = bare_all k vs b
bare_higher (suc low) zero (v ∷ vs) h b = absurd (omega arith)
bare_higher (suc low) (suc high) (v ∷ vs) h b = bare_higher low high vs (omega arith) b

bare_adjusted : (f : Vertex → Vertex) (k : ℕ) (vs : List Vertex) → BarePast k vs → BarePast k (adjusted f vs k)
bare_adjusted f k [] b = tt
bare_adjusted f zero (v ∷ vs) b = b
bare_adjusted f (suc k) (v ∷ vs) b = bare_adjusted f k vs b

no_lines : (k : ℕ) (vs : List Vertex) → AllByRecursion Bare vs → move_lines k vs ≡ []
no_lines k [] all = refl
no_lines k (v ∷ vs) all = ap (λ ms. map (move_line k) ms ++ move_lines (suc k) vs) all.0 ∙ no_lines (suc k) vs all.1

-- a move joined behind all others is the last line
lines_joined : (k f : ℕ) (vs : List Vertex) (m : Move) → f < length vs → BarePast f vs → move_lines k (adjusted (with_move m) vs f) ≡ move_lines k vs ++ move_line (k + f) m ∷ []
lines_joined k f [] m h b = absurd (omega arith)
lines_joined k zero (v ∷ vs) m h b =
    let here : k ≡ k + zero = omega arith in
    ap₂ (λ a c. a ++ c) (map_push (move_line k) v.moves m) (no_lines (suc k) vs b)
    ∙ append-nil (map (move_line k) v.moves ++ move_line k m ∷ [])
    ∙ ap₂ (λ a c. a ++ move_line c m ∷ []) (sym (ap (λ t. map (move_line k) v.moves ++ t) (no_lines (suc k) vs b) ∙ append-nil (map (move_line k) v.moves))) here
lines_joined k (suc f) (v ∷ vs) m h b =
    let here : suc k + f ≡ k + suc f = omega arith in
    ap (λ t. map (move_line k) v.moves ++ t) (lines_joined (suc k) f vs m (omega arith) b ∙ ap (λ c. move_lines (suc k) vs ++ move_line c m ∷ []) here)
    ∙ sym (append_assoc (map (move_line k) v.moves) (move_lines (suc k) vs) (move_line (k + suc f) m ∷ []))

same_vertices : (m : Move) (vs : List Vertex) (f : ℕ) → map vertex_line (adjusted (with_move m) vs f) ≡ map vertex_line vs
same_vertices m [] f = refl
same_vertices m (v ∷ vs) zero = refl
same_vertices m (v ∷ vs) (suc f) = ap (λ t. vertex_line v ∷ t) (same_vertices m vs f)

one_more : (m : Move) (vs : List Vertex) (f : ℕ) → f < length vs → move_count (adjusted (with_move m) vs f) ≡ move_count vs + 1
one_more m [] f h = absurd (omega arith)
one_more m (v ∷ vs) zero h = omega (arith, length_push v.moves m)
one_more m (v ∷ vs) (suc f) h = omega (arith, one_more m vs f (omega arith))

-- what is still to be read, once so much is drawn of the chart that will have been read
pub record Moving (read drawn : Arena) (left : ℕ) (bytes : List ℕ) : Type 0 where
  lines : flat_map spelt (move_lines 0 drawn.vertices) ++ bytes ≡ flat_map spelt (move_lines 0 read.vertices)
  vertices : map vertex_line read.vertices ≡ map vertex_line drawn.vertices
  count : move_count read.vertices ≡ move_count drawn.vertices + left

pub record Placing (read drawn : Arena) (left : ℕ) (bytes : List ℕ) : Type 0 where
  lines : flat_map spelt (map vertex_line drawn.vertices) ++ bytes ≡ flat_map spelt (map vertex_line read.vertices) ++ (spelt (moves (move_count read.vertices)) ++ flat_map spelt (move_lines 0 read.vertices))
  count : size read ≡ size drawn + left

abbrev Claim : Arena → Arena → Due → List ℕ → Type 0
Claim read drawn count_due bytes = drawn.vertices ≡ [] → text_of read ≡ bytes
Claim read drawn (vertex_due left) bytes = AllByRecursion Bare drawn.vertices → Placing read drawn left bytes
Claim read drawn (move_due left low) bytes = BarePast low drawn.vertices → Moving read drawn left bytes

at_end : (read drawn : Arena) (due : Due) (bytes : List ℕ) → Finished due bytes → read ≡ drawn → Claim read drawn due bytes
at_end read drawn count_due bytes f e = absurd f
at_end read drawn (vertex_due left) bytes f e = absurd f
at_end read drawn (move_due zero low) [] f e = λ b. record {
  lines = append-nil (flat_map spelt (move_lines 0 drawn.vertices)) ∙ ap (λ a. flat_map spelt (move_lines 0 a.vertices)) (sym e);
  vertices = ap (λ a. map vertex_line a.vertices) e;
  count = omega (arith, ap (λ a. move_count a.vertices) e);
}
at_end read drawn (move_due zero low) (b ∷ bytes) f e = absurd f
at_end read drawn (move_due (suc left) low) bytes f e = absurd f

-- a vertex that is drawn
placing : (a b : Arena) (o c : ℕ) → drawn_by a (vertex o c) ≡ done b → b ≡ with_vertex a (record { owner = o; colour = c; moves = [] })
placing a b o c e = go (place_outcome a o c) e
  where
    go : (x : Outcome ℕ) → drawing x (after x (with_vertex a (record { owner = o; colour = c; moves = [] })) a) ≡ done b → b ≡ with_vertex a (record { owner = o; colour = c; moves = [] })
    go (done n) e = sym (done_same e)
    go (refused n p) e = absurd (done_refused (sym e))

-- a move that is drawn
joining : (a b : Arena) (f t c : ℕ) → drawn_by a (move f t c) ≡ done b → (f < size a) × (b ≡ with_adjusted a (with_move (record { target = t; cost = c })) f)
joining a b f t c e = (
  elim (cases_lt f (size a)) [
    | inl h ↦ h
    | inr h ↦ absurd (done_refused (sym e ∙ ap (λ x. drawing x (rules.joined a f t c)) (join_from a f t c h)))
  ],
  go (join_outcome a f t c) e,
)
  where
    go : (x : Outcome ℕ) → drawing x (after x (with_adjusted a (with_move (record { target = t; cost = c })) f) a) ≡ done b → b ≡ with_adjusted a (with_move (record { target = t; cost = c })) f
    go (done n) e = sym (done_same e)
    go (refused n p) e = absurd (done_refused (sym e))

-- bytes moved from what is left to what is drawn
shift : (front line rest bytes : List ℕ) → bytes ≡ line ++ rest → front ++ bytes ≡ (front ++ line) ++ rest
shift front line rest bytes e = ap (λ t. front ++ t) e ∙ sym (append_assoc front line rest)

spelt_push : (xs : List Line) (x : Line) → flat_map spelt (xs ++ x ∷ []) ≡ flat_map spelt xs ++ spelt x
spelt_push xs x = flat_map-append spelt xs (x ∷ []) ∙ ap (λ t. flat_map spelt xs ++ t) (append-nil (spelt x))

module _ (read a b : Arena) (bytes rest : List ℕ) where
  count_step : (n : ℕ) → bytes ≡ spelt (vertices n) ++ rest → a ≡ b → Claim read b (vertex_due n) rest → Claim read a count_due bytes
  count_step n is same claim none =
      let empty : b.vertices ≡ [] = ap (λ x. x.vertices) (sym same) ∙ none in
      let p = claim (rw empty tt) in
      let long : size read ≡ n = p.count ∙ ap (λ vs. length vs + n) empty ∙ omega arith in
      let lines : rest ≡ flat_map spelt (map vertex_line read.vertices) ++ (spelt (moves (move_count read.vertices)) ++ flat_map spelt (move_lines 0 read.vertices)) =
      ap (λ vs. flat_map spelt (map vertex_line vs) ++ rest) (sym empty) ∙ p.lines in
      sym (is ∙ ap₂ (λ k t. spelt (vertices k) ++ t) (sym long) lines ∙ text_parts read)

  vertex_step : (o c left : ℕ) → bytes ≡ spelt (vertex o c) ++ rest → b ≡ with_vertex a (record { owner = o; colour = c; moves = [] }) → Claim read b (vertex_due left) rest → Claim read a (vertex_due (suc left)) bytes
  vertex_step o c left is new claim bare =
      let v : Vertex = record { owner = o; colour = c; moves = [] } in
      let vs : List Vertex = a.vertices in
      let after_it : b.vertices ≡ vs ++ v ∷ [] = ap (λ x. x.vertices) new in
      let p = claim (rw after_it (All-push Bare vs v bare refl)) in
      let drawn : flat_map spelt (map vertex_line b.vertices) ≡ flat_map spelt (map vertex_line vs) ++ spelt (vertex o c) =
      ap (λ us. flat_map spelt (map vertex_line us)) after_it ∙ ap (flat_map spelt) (map_push vertex_line vs v) ∙ spelt_push (map vertex_line vs) (vertex o c) in
      record {
        lines = shift (flat_map spelt (map vertex_line vs)) (spelt (vertex o c)) rest bytes is ∙ ap (λ t. t ++ rest) (sym drawn) ∙ p.lines;
        count = omega (arith, p.count, ap length after_it, length_push vs v);
      }

  moves_step : (n : ℕ) → bytes ≡ spelt (moves n) ++ rest → a ≡ b → Claim read b (move_due n 0) rest → Claim read a (vertex_due zero) bytes
  moves_step n is same claim bare =
      let vs : List Vertex = a.vertices in
      let same_vs : b.vertices ≡ vs = ap (λ x. x.vertices) (sym same) in
      let p = claim (rw same_vs (bare_all 0 vs bare)) in
      let counted : move_count read.vertices ≡ n = p.count ∙ ap (λ us. move_count us + n) same_vs ∙ omega (arith, bare_count vs bare) in
      let lines : rest ≡ flat_map spelt (move_lines 0 read.vertices) = sym (ap (λ us. flat_map spelt (move_lines 0 us) ++ rest) same_vs ∙ ap (λ ls. flat_map spelt ls ++ rest) (no_lines 0 vs bare)) ∙ p.lines in
      record {
        lines = ap₂ (λ x y. x ++ y) (ap (flat_map spelt) (sym (p.vertices ∙ ap (map vertex_line) same_vs))) (is ∙ ap₂ (λ k t. spelt (moves k) ++ t) (sym counted) lines);
        count = omega (arith, ap length (p.vertices ∙ ap (map vertex_line) same_vs), length-map read.vertices vertex_line, length-map vs vertex_line);
      }
    where
      bare_count : (us : List Vertex) → AllByRecursion Bare us → move_count us ≡ 0
      bare_count [] all = refl
      bare_count (u ∷ us) all = omega (arith, ap length all.0, bare_count us all.1)

  move_step : (f t c left low : ℕ) → low ≤ f → bytes ≡ spelt (move f t c) ++ rest → f < size a → b ≡ with_adjusted a (with_move (record { target = t; cost = c })) f → Claim read b (move_due left f) rest → Claim read a (move_due (suc left) low) bytes
  move_step f t c left low high is here new claim bare =
      let m : Move = record { target = t; cost = c } in
      let vs : List Vertex = a.vertices in
      let after_it : b.vertices ≡ adjusted (with_move m) vs f = ap (λ x. x.vertices) new in
      let past : BarePast f vs = bare_higher low f vs high bare in
      let p = claim (rw after_it (bare_adjusted (with_move m) f vs past)) in
      let zero_plus : 0 + f ≡ f = omega arith in
      let drawn : flat_map spelt (move_lines 0 b.vertices) ≡ flat_map spelt (move_lines 0 vs) ++ spelt (move f t c) =
      ap (λ us. flat_map spelt (move_lines 0 us)) after_it ∙ ap (flat_map spelt) (lines_joined 0 f vs m here past ∙ ap (λ k. move_lines 0 vs ++ move_line k m ∷ []) zero_plus) ∙ spelt_push (move_lines 0 vs) (move f t c) in
      record {
        lines = shift (flat_map spelt (move_lines 0 vs)) (spelt (move f t c)) rest bytes is ∙ ap (λ x. x ++ rest) (sym drawn) ∙ p.lines;
        vertices = p.vertices ∙ ap (map vertex_line) after_it ∙ same_vertices m vs f;
        count = omega (arith, p.count, ap move_count after_it, one_more m vs f here);
      }

-- a line that is due and drawn
one_step : (read a b : Arena) (due then : Due) (ns bytes rest : List ℕ) → next due (due_line due ns) ≡ Some then → bytes ≡ spelt (due_line due ns) ++ rest → drawn_by a (due_line due ns) ≡ done b → Claim read b then rest → Claim read a due bytes
one_step read a b count_due then ns bytes rest e is d claim = count_step read a b bytes rest (get_or ns 0 0) is (done_same d) (rw (sym (some_same e)) at claim)
one_step read a b (vertex_due zero) then ns bytes rest e is d claim = moves_step read a b bytes rest (get_or ns 0 0) is (done_same d) (rw (sym (some_same e)) at claim)
one_step read a b (vertex_due (suc k)) then ns bytes rest e is d claim =
    vertex_step read a b bytes rest (get_or ns 0 0) (get_or ns 1 0) k is (placing a b (get_or ns 0 0) (get_or ns 1 0) d) (rw (sym (some_same e)) at claim)
one_step read a b (move_due zero low) then ns bytes rest e is d claim = absurd (none_some e)
one_step read a b (move_due (suc k) low) then ns bytes rest e is d claim = go (leb low f) refl e
  where
    f : ℕ
    f = get_or ns 0 0

    go : (x : Bool) → leb low f ≡ x → cond x (Some (move_due k f)) None ≡ Some then → Claim read a (move_due (suc k) low) bytes
    go true h i = let j = joining a b f (get_or ns 1 0) (get_or ns 2 0) d in move_step read a b bytes rest f (get_or ns 1 0) (get_or ns 2 0) k low (leb-true low f h) is j.0 j.1 (rw (sym (some_same i)) at claim)
    go false h i = absurd (none_some i)

claimed : (read a : Arena) (due : Due) (k : ℕ) (bytes : List ℕ) → Reads (done read) a due k bytes → Claim read a due bytes
claimed read a due k bytes (whole f e) = at_end read a due bytes f (done_same e)
claimed read a due k bytes (wrong nf none e) = absurd (done_refused e)
claimed read a due k bytes (declined line rest then n p b d e) = absurd (done_refused e)
claimed read a due k bytes (onward line rest then b x d r) =
    let line_is = (is_due due line then x.expected).is in
    one_step read a b due then (numbers_of line) bytes rest (sym (ap (next due) line_is) ∙ x.expected) (x.lined.is ∙ ap (λ l. spelt l ++ rest) line_is) (sym (ap (drawn_by a) line_is) ∙ d) (claimed read b then (k + 1) rest r)

pub written_back : (bytes : List ℕ) (a : Arena) → Reads (done a) blank count_due 1 bytes → text_of a ≡ bytes
written_back bytes a r = claimed a blank count_due 1 bytes r refl
