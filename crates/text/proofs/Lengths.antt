-- How long a chart's text is at most, and the text put whole.
use Rattle.std.proofs.Common.{◌≡◌, ℕ, suc, ◌+◌, ◌*◌, ◌^◌, ◌<◌, ◌≤◌, List, [], ◌∷◌, ◌++◌, map, length, codes, decimal, ap, arith, length-append}
use Rattle.std.specs.List.{flat_map, AllByRecursion}
use Rattle.std.proofs.lemmas.Grind.{flat_map-append}
use Rattle.std.proofs.lemmas.Fmt.{length-decimal-le}
use Rattle.chart.specs.declared.parts.Move.{Move}
use Rattle.chart.specs.Arena.{Arena, Vertex, Ranged, RangedMove, RangedVertex, size}
use Rattle.drawn.specs.Rules.{move_count}
use Rattle.text.specs.Lines.{vertices, moves, spelt, end_of, numbers_spelt}
use Rattle.text.specs.declared.writing.Page.{Page}
use Rattle.text.specs.Writing.{Adds, vertex_line, move_line, move_lines, text_of}
use Rattle.text.specs.Pages.{Puts}
use Rattle.text.proofs.Putting.{puts_more, puts_same, text_parts}

numbers_few : (ns : List ℕ) → AllByRecursion (λ n. n < 2 ^ 64) ns → length (numbers_spelt ns) ≤ 21 * length ns
numbers_few [] all = omega arith
numbers_few (n ∷ ns) all =
    omega (arith, length-append (decimal n) (end_of ns ∷ numbers_spelt ns), length-decimal-le 20 n (omega arith) (omega (arith, all.0)) all.0, numbers_few ns all.1)

-- a line of a word and at most three numbers
line_few : (word ns : List ℕ) → length word ≤ 9 → length ns ≤ 3 → AllByRecursion (λ n. n < 2 ^ 64) ns → length (word ++ numbers_spelt ns) ≤ 72
line_few word ns short few all = omega (arith, short, few, length-append word (numbers_spelt ns), numbers_few ns all)

module _ (n h : ℕ) (low : n ≤ 4096) (height : h ≤ 30) where
  vertices_few : (vs : List Vertex) → AllByRecursion (RangedVertex n h) vs → length (flat_map spelt (map vertex_line vs)) ≤ 72 * length vs
  vertices_few [] all = omega arith
  vertices_few (v ∷ vs) all =
      let v_few : length (spelt (vertex_line v)) ≤ 72 =
      line_few (codes "vertex=") (v.owner ∷ v.colour ∷ []) (omega arith) (omega arith) (omega (arith, all.0.owner), (omega (arith, all.0.colour, height), tt)) in
      omega (arith, length-append (spelt (vertex_line v)) (flat_map spelt (map vertex_line vs)), v_few, vertices_few vs all.1)

  moves_few : (from : ℕ) (ms : List Move) → from < 4096 → AllByRecursion (RangedMove n) ms → length (flat_map spelt (map (move_line from) ms)) ≤ 72 * length ms
  moves_few from [] here all = omega arith
  moves_few from (m ∷ ms) here all =
      let m_few : length (spelt (move_line from m)) ≤ 72 =
      line_few (codes "move=") (from ∷ m.target ∷ m.cost ∷ []) (omega arith) (omega arith) (omega (arith, here), (omega (arith, all.0.target, low), (omega (arith, all.0.cost), tt))) in
      omega (arith, length-append (spelt (move_line from m)) (flat_map spelt (map (move_line from) ms)), m_few, moves_few from ms here all.1)

  all_moves_few : (k : ℕ) (vs : List Vertex) → k + length vs ≤ 4096 → AllByRecursion (RangedVertex n h) vs → length (flat_map spelt (move_lines k vs)) ≤ 73728 * length vs
  all_moves_few k [] few all = omega arith
  all_moves_few k (v ∷ vs) few all =
      omega (
        arith,
        ap length (flat_map-append spelt (map (move_line k) v.moves) (move_lines (suc k) vs)),
        length-append (flat_map spelt (map (move_line k) v.moves)) (flat_map spelt (move_lines (suc k) vs)),
        moves_few k v.moves (omega (arith, few)) all.0.moves,
        all.0.few,
        all_moves_few (suc k) vs (omega (arith, few)) all.1,
      )

  count_few : (vs : List Vertex) → AllByRecursion (RangedVertex n h) vs → move_count vs ≤ 1024 * length vs
  count_few [] all = omega arith
  count_few (v ∷ vs) all = omega (arith, all.0.few, count_few vs all.1)

pub text_few : (a : Arena) → Ranged a → length (text_of a) < 2 ^ 64
text_few a ranged =
    let few : length a.vertices ≤ 4096 = ranged.few in
    let one = spelt (vertices (size a)) in
    let two = flat_map spelt (map vertex_line a.vertices) in
    let three = spelt (moves (move_count a.vertices)) in
    let four = flat_map spelt (move_lines 0 a.vertices) in
    let one_few : length one ≤ 72 = line_few (codes "vertices=") (size a ∷ []) (omega arith) (omega arith) (omega (arith, few), tt) in
    let three_few : length three ≤ 72 =
    line_few (codes "moves=") (move_count a.vertices ∷ []) (omega arith) (omega arith) (omega (arith, few, count_few (size a) a.height ranged.few ranged.low a.vertices ranged.vertices), tt) in
    omega (
      arith,
      ap length (text_parts a),
      length-append one (two ++ (three ++ four)),
      length-append two (three ++ four),
      length-append three four,
      one_few,
      three_few,
      few,
      vertices_few (size a) a.height ranged.few ranged.low a.vertices ranged.vertices,
      all_moves_few (size a) a.height ranged.few ranged.low 0 a.vertices (omega (arith, few)) ranged.vertices,
    )

-- the whole text, put part by part
pub text_put : (a : Arena) → Ranged a → (p one two three q : Page) → p.at ≡ 0 → Puts (spelt (vertices (size a))) p one → Puts (flat_map spelt (map vertex_line a.vertices)) one two →
    Puts (spelt (moves (move_count a.vertices))) two three → Puts (flat_map spelt (move_lines 0 a.vertices)) three q → Adds (text_of a) p.out.now 0 q.out.now q.at
text_put a ranged p one two three q start f g h i =
    let whole : Puts (text_of a) p q = puts_same _ (text_of a) p q (text_parts a)
    (puts_more (spelt (vertices (size a))) (flat_map spelt (map vertex_line a.vertices) ++ (spelt (moves (move_count a.vertices)) ++ flat_map spelt (move_lines 0 a.vertices))) p one q f
    (puts_more (flat_map spelt (map vertex_line a.vertices)) (spelt (moves (move_count a.vertices)) ++ flat_map spelt (move_lines 0 a.vertices)) one two q g
    (puts_more (spelt (moves (move_count a.vertices))) (flat_map spelt (move_lines 0 a.vertices)) two three q h i))) in
    rw start at (whole.adds (omega (arith, start, text_few a ranged)))
