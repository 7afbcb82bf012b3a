-- The text of a drawn chart is read to its end, and gives that chart.
use Rattle.std.proofs.Common.{◌≡◌, ℕ, zero, suc, ◌+◌, ◌-◌, ◌<◌, ◌≤◌, List, [], ◌∷◌, ◌++◌, map, length, sym, refl, ap, ◌∙◌, append_assoc, add-zero, arith, length-append}
use lib.ListN.{length-map}
use Rattle.std.specs.List.{flat_map, AllByRecursion}
use Rattle.std.proofs.lemmas.Grind.{flat_map-append}
use Rattle.std.proofs.lemmas.List.{append-nil}
use Rattle.chart.specs.declared.parts.Move.{Move}
use Rattle.chart.specs.Arena.{Arena, Vertex, RangedVertex, RangedMove, size}
use Rattle.chart.specs.Refusals.{Outcome, done}
use Rattle.drawn.specs.declared.sheet.Drawn.{Drawn}
use Rattle.drawn.specs.Rules as rules
use Rattle.drawn.specs.Rules.{blank, move_count, adjusted, with_move, with_vertex, with_adjusted, after, place_outcome, placed}
use Rattle.drawn.specs.Meaning.{sheet}
use Rattle.drawn.specs.Readings.{sheet_ranged, size_is}
use Rattle.drawn.proofs.Standing.{count_is}
use Rattle.drawn.proofs.Outcomes.{place_done, join_done}
use Rattle.text.specs.Lines.{vertices, vertex, moves, move, spelt}
use Rattle.text.specs.Tokens.{Lined}
use Rattle.text.specs.Reading.{Reads, count_due, vertex_due, move_due}
use Rattle.text.specs.Writing.{vertex_line, move_line, move_lines, text_of}
use Rattle.text.proofs.Steps.{next_count, next_vertex, next_moves, next_move, all_read}
use Rattle.text.proofs.OneWay.{one_way}
use Rattle.text.proofs.Putting.{text_parts}

-- a vertex before its moves are joined, and with some of them
abbrev bare : Vertex → Vertex
bare v = record { owner = v.owner; colour = v.colour; moves = [] }

abbrev with_moves : Vertex → List Move → Vertex
with_moves v ms = record { owner = v.owner; colour = v.colour; moves = ms }

abbrev arena : List Vertex → Arena
arena vs = record { height = 8; vertices = vs }

-- vertices, one by one
place_all : (end : Outcome Arena) (ready todo : List Vertex) (k n : ℕ) (rest : List ℕ) → length ready + length todo ≤ 128 → AllByRecursion (RangedVertex n 8) todo →
    Reads end (arena (ready ++ map bare todo)) (vertex_due zero) (k + length todo) rest →
    Reads end (arena ready) (vertex_due (length todo)) k (flat_map spelt (map vertex_line todo) ++ rest)
place_all end ready [] k n rest room ok r =
    let same : k + 0 ≡ k = add-zero k in
    rw (append-nil ready, same) at r
place_all end ready (v ∷ todo) k n rest room ok r =
    let more : List ℕ = flat_map spelt (map vertex_line todo) ++ rest in
    let e : place_outcome (arena ready) v.owner v.colour ≡ done (length ready) = place_done (arena ready) v.owner v.colour ok.0.owner ok.0.colour (omega arith) in
    let new : placed (arena ready) v.owner v.colour ≡ arena (ready ++ bare v ∷ []) = ap (λ o. after o (with_vertex (arena ready) (bare v)) (arena ready)) e in
    let one : suc (length todo) - 1 ≡ length todo = omega arith in
    let on : k + 1 + length todo ≡ k + suc (length todo) = omega arith in
    let line : Lined (flat_map spelt (map vertex_line (v ∷ todo)) ++ rest) (vertex v.owner v.colour) more =
    record { short = (omega (arith, ok.0.owner), omega (arith, ok.0.colour)); is = append_assoc (spelt (vertex_line v)) (flat_map spelt (map vertex_line todo)) rest } in
    next_vertex end (arena ready) k (flat_map spelt (map vertex_line (v ∷ todo)) ++ rest) (suc (length todo)) v.owner v.colour more (length ready) (omega arith) line e
    (rw (new, one) (place_all end (ready ++ bare v ∷ []) todo (k + 1) n rest (omega (arith, length-append ready (bare v ∷ []))) ok.1 (rw (append_assoc ready (bare v ∷ []) (map bare todo), on) r)))

adjusted_at : {A : Type 0} (f : A → A) (front : List A) (x : A) (back : List A) → adjusted f (front ++ x ∷ back) (length front) ≡ front ++ f x ∷ back
adjusted_at f [] x back = refl
adjusted_at f (y ∷ front) x back = ap (λ t. y ∷ t) (adjusted_at f front x back)

count_append : (vs us : List Vertex) → move_count (vs ++ us) ≡ move_count vs + move_count us
count_append [] us = omega arith
count_append (v ∷ vs) us = omega (arith, count_append vs us)

count_bare : (vs : List Vertex) → move_count (map bare vs) ≡ 0
count_bare [] = refl
count_bare (v ∷ vs) = omega (arith, count_bare vs)

-- the moves of one vertex, one by one
module _ (end : Outcome Arena) (front : List Vertex) (x : Vertex) (back : List Vertex) (n : ℕ) (wide : length (front ++ x ∷ back) ≡ n) (small : n ≤ 128) where
  abbrev state : List Move → Arena
  state ms = arena (front ++ with_moves x ms ∷ back)

  state_size : (ms : List Move) → size (state ms) ≡ n
  state_size ms = omega (arith, wide, length-append front (x ∷ back), length-append front (with_moves x ms ∷ back))

  state_count : (ms : List Move) → move_count (state ms).vertices ≡ move_count front + (length ms + move_count back)
  state_count ms = count_append front (with_moves x ms ∷ back)

  join_some : (ready todo : List Move) (left low k : ℕ) (rest : List ℕ) → low ≤ length front → AllByRecursion (RangedMove n) todo →
      move_count front + (length ready + length todo + move_count back) ≤ 1024 →
      ((bound : ℕ) → bound ≤ length front → Reads end (state (ready ++ todo)) (move_due left bound) (k + length todo) rest) →
      Reads end (state ready) (move_due (length todo + left) low) k (flat_map spelt (map (move_line (length front)) todo) ++ rest)
  join_some ready [] left low k rest below ok room r =
      let same : k + 0 ≡ k = add-zero k in
      let none : 0 + left ≡ left = omega arith in
      rw none (rw (append-nil ready, same) at (r low below))
  join_some ready (m ∷ todo) left low k rest below ok room r =
      let f : ℕ = length front in
      let more : List ℕ = flat_map spelt (map (move_line f) todo) ++ rest in
      let here : f < size (state ready) = omega (arith, state_size ready, wide, length-append front (x ∷ back)) in
      let e = join_done (state ready) f m.target m.cost here (omega (arith, state_size ready, ok.0.target)) ok.0.cost (omega (arith, state_count ready)) in
      let new : rules.joined (state ready) f m.target m.cost ≡ state (ready ++ m ∷ []) =
      ap (λ o. after o (with_adjusted (state ready) (with_move m) f) (state ready)) e ∙ ap arena (adjusted_at (with_move m) front (with_moves x ready) back) in
      let one : suc (length todo) + left - 1 ≡ length todo + left = omega arith in
      let on : k + 1 + length todo ≡ k + suc (length todo) = omega arith in
      let line : Lined (flat_map spelt (map (move_line f) (m ∷ todo)) ++ rest) (move f m.target m.cost) more =
      record { short = (omega (arith, state_size ready), omega (arith, ok.0.target), omega (arith, ok.0.cost)); is = append_assoc (spelt (move_line f m)) (flat_map spelt (map (move_line f) todo)) rest } in
      next_move end (state ready) k (flat_map spelt (map (move_line f) (m ∷ todo)) ++ rest) (suc (length todo) + left) low f m.target m.cost more _ (omega arith) below line e
      (rw (new, one) (join_some (ready ++ m ∷ []) todo left f (k + 1) rest (omega arith) ok.1 (omega (arith, length-append ready (m ∷ []))) (λ bound le. rw (append_assoc ready (m ∷ []) todo, on) (r bound le))))

-- the moves of all vertices
join_all : (end : Outcome Arena) (front vs : List Vertex) (low k n : ℕ) (rest : List ℕ) → length front + length vs ≡ n → n ≤ 128 → low ≤ length front → AllByRecursion (RangedVertex n 8) vs →
    move_count front + move_count vs ≤ 1024 →
    ((bound : ℕ) → Reads end (arena (front ++ vs)) (move_due zero bound) (k + move_count vs) rest) →
    Reads end (arena (front ++ map bare vs)) (move_due (move_count vs) low) k (flat_map spelt (move_lines (length front) vs) ++ rest)
join_all end front [] low k n rest wide small below ok room r =
    let same : k + 0 ≡ k = add-zero k in
    rw same at (r low)
join_all end front (v ∷ vs) low k n rest wide small below ok room r =
    let f : ℕ = length front in
    let bytes : flat_map spelt (move_lines f (v ∷ vs)) ++ rest ≡ flat_map spelt (map (move_line f) v.moves) ++ (flat_map spelt (move_lines (suc f) vs) ++ rest) =
    ap (λ t. t ++ rest) (flat_map-append spelt (map (move_line f) v.moves) (move_lines (suc f) vs)) ∙ append_assoc (flat_map spelt (map (move_line f) v.moves)) (flat_map spelt (move_lines (suc f) vs)) rest in
    let long : length (front ++ v ∷ []) ≡ suc f = omega (arith, length-append front (v ∷ [])) in
    let total : k + length v.moves + move_count vs ≡ k + (length v.moves + move_count vs) = omega arith in
    rw bytes (join_some end front (bare v) (map bare vs) n (omega (arith, length-append front (bare v ∷ map bare vs), length-map vs bare)) small [] v.moves (move_count vs) low k (flat_map spelt (move_lines (suc f) vs) ++ rest) below ok.0.moves
    (omega (arith, count_bare vs))
    (λ bound le. rw (sym (append_assoc front (v ∷ []) (map bare vs)), sym long)
    (join_all end (front ++ v ∷ []) vs bound (k + length v.moves) n rest (omega (arith, length-append front (v ∷ []))) small (omega arith) ok.1 (omega (arith, count_append front (v ∷ [])))
    (λ other. rw (append_assoc front (v ∷ []) vs, total) (r other)))))

reads_back : (d : Drawn) → Reads (done (sheet d)) blank count_due 1 (text_of (sheet d))
reads_back d =
    let a : Arena = sheet d in
    let vs : List Vertex = a.vertices in
    let end : Outcome Arena = done a in
    let ok = (sheet_ranged d).vertices in
    let n = size_is d in
    let m = count_is d in
    let last : List ℕ = flat_map spelt (move_lines 0 vs) in
    let third : List ℕ = spelt (moves (move_count vs)) ++ last in
    let second : List ℕ = flat_map spelt (map vertex_line vs) ++ third in
    let nil : last ++ [] ≡ last = append-nil last in
    let end_of_moves : Reads end (arena (map bare vs)) (move_due (move_count vs) 0) (2 + length vs + 1) last =
    rw (sym nil) (join_all end [] vs 0 (2 + length vs + 1) (length vs) [] (omega arith) (omega (arith, d.room)) (omega arith) ok (omega (arith, d.few)) (λ bound. all_read end a (2 + length vs + 1 + move_count vs) [] bound refl refl)) in
    let moves_counted : Lined third (moves (move_count vs)) last = record { short = omega (arith, d.few); is = refl } in
    let vertices_counted : Lined (spelt (vertices (size a)) ++ second) (vertices (size a)) second = record { short = omega (arith, d.room); is = refl } in
    rw (sym (text_parts a))
    (next_count end blank 1 (spelt (vertices (size a)) ++ second) (size a) second vertices_counted
    (place_all end [] vs 2 (size a) third (omega (arith, d.room)) ok
    (next_moves end (arena (map bare vs)) (2 + length vs) third (move_count vs) last moves_counted end_of_moves)))

pub read_back : (d : Drawn) (end : Outcome Arena) → Reads end blank count_due 1 (text_of (sheet d)) → end ≡ done (sheet d)
read_back d end r = one_way end (done (sheet d)) blank count_due 1 (text_of (sheet d)) r (reads_back d)
