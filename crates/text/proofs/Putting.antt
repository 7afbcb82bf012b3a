-- Bytes put one behind the other.
use Rattle.std.proofs.Common.{◌≡◌, ℕ, suc, ◌+◌, ◌/◌, ◌%◌, ◌^◌, ◌<◌, ◌≤◌, List, [], ◌∷◌, ◌++◌, map, length, get_or, take, drop, decimal, sym, refl, ap, ◌∙◌, subst, inl, inr, append_assoc, add-zero, arith, length-append, length-take-le}
use Rattle.std.specs.List.{flat_map}
use Rattle.std.proofs.lemmas.List.{append-nil, take_more, take_all}
use Rattle.std.proofs.lemmas.Grind.{flat_map-append}
use Rattle.std.proofs.lemmas.Bool.{cases_lt}
use Rattle.std.proofs.lemmas.Fmt.{decimal_digit, decimal_step}
use Rattle.chart.specs.Arena.{Arena, Vertex, size}
use Rattle.drawn.specs.Rules.{move_count}
use Rattle.text.specs.Lines.{vertices, moves, spelt, end_of, numbers_spelt}
use Rattle.text.proofs.Fields.{drop_first}
use Rattle.text.specs.declared.writing.Page.{Page}
use Rattle.text.specs.Writing.{Holds, Adds, vertex_line, move_line, move_lines, text_of}
use Rattle.text.specs.Pages.{Puts}

pub puts_none : (p : Page) → Puts [] p p
puts_none p =
    record {
      same = refl;
      end = λ h. omega arith;
      past = λ h. omega (arith, h);
      adds = λ h before s holds. subst (λ t. Holds before p.out.now p.at t) (sym (append-nil s)) holds;
    }

pub puts_more : (xs ys : List ℕ) (p q r : Page) → Puts xs p q → Puts ys q r → Puts (xs ++ ys) p r
puts_more xs ys p q r f g =
    let long : length (xs ++ ys) ≡ length xs + length ys = length-append xs ys in
    record {
      same = g.same ∙ f.same;
      end = λ h. let to = f.end (omega (arith, h, long)) in omega (arith, h, long, to, g.end (omega (arith, h, long, to)));
      past = λ h. elim (cases_lt (p.at + length xs) (2 ^ 64)) [
        | inl low ↦ g.past (omega (arith, h, long, f.end low))
        | inr high ↦ elim (cases_lt (q.at + length ys) (2 ^ 64)) [
          | inl same ↦ omega (arith, f.past high, g.end same)
          | inr more ↦ g.past more
        ]
      ];
      adds = λ h before s holds.
          let to = f.end (omega (arith, h, long)) in
          subst (λ t. Holds before r.out.now r.at t) (append_assoc s xs ys) (g.adds (omega (arith, h, long, to)) before (s ++ xs) (f.adds (omega (arith, h, long)) before s holds));
    }

pub puts_same : (xs ys : List ℕ) (p q : Page) → xs ≡ ys → Puts xs p q → Puts ys p q
puts_same xs ys p q e f = subst (λ t. Puts t p q) e f

-- a number by its last digit
last_digit : (n : ℕ) → n < 10 → (48 + n % 10) ∷ [] ≡ decimal n
last_digit n h = let same : n % 10 ≡ n = omega arith in ap (λ d. (48 + d) ∷ []) same ∙ sym (decimal_digit n h)

-- one element more of a list that is put
pub put_more : {X : Type 0} (f : X → List ℕ) (xs : List X) (i : ℕ) (d : X) (p q r : Page) → i < length xs →
    Puts (flat_map f (take i xs)) p q → Puts (f (get_or xs i d)) q r → Puts (flat_map f (take (i + 1) xs)) p r
put_more f xs i d p q r h a b =
    puts_same (flat_map f (take i xs) ++ f (get_or xs i d)) (flat_map f (take (i + 1) xs)) p r
    (ap (λ t. flat_map f (take i xs) ++ t) (sym (append-nil (f (get_or xs i d)))) ∙ sym (flat_map-append f (take i xs) (get_or xs i d ∷ [])) ∙ ap (flat_map f) (sym (take_more xs i d h)))
    (puts_more (flat_map f (take i xs)) (f (get_or xs i d)) p q r a b)

move_lines_push : (k : ℕ) (vs : List Vertex) (v : Vertex) → move_lines k (vs ++ v ∷ []) ≡ move_lines k vs ++ map (move_line (k + length vs)) v.moves
move_lines_push k [] v = append-nil (map (move_line k) v.moves) ∙ ap (λ n. map (move_line n) v.moves) (sym (add-zero k))
move_lines_push k (x ∷ vs) v =
    let next : suc k + length vs ≡ k + suc (length vs) = omega arith in
    ap (λ t. map (move_line k) x.moves ++ t) (move_lines_push (suc k) vs v ∙ ap (λ n. move_lines (suc k) vs ++ map (move_line n) v.moves) next)
    ∙ sym (append_assoc (map (move_line k) x.moves) (move_lines (suc k) vs) (map (move_line (k + suc (length vs))) v.moves))

pub put_last_digit : (n : ℕ) (p q : Page) → n < 10 → Puts ((48 + n % 10) ∷ []) p q → Puts (decimal n) p q
put_last_digit n p q h a = puts_same ((48 + n % 10) ∷ []) (decimal n) p q (last_digit n h) a

pub put_more_digits : (n : ℕ) (p q r : Page) → n < 2 ^ 64 → 10 ≤ n → Puts (decimal (n / 10)) p q → Puts ((48 + n % 10) ∷ []) q r → Puts (decimal n) p r
put_more_digits n p q r fits h a b =
    puts_same (decimal (n / 10) ++ (48 + n % 10) ∷ []) (decimal n) p r (sym (decimal_step n h fits)) (puts_more (decimal (n / 10)) ((48 + n % 10) ∷ []) p q r a b)

-- one number more of a line
pub put_numbers : (ns : List ℕ) (i e : ℕ) (p one two r : Page) → i < length ns → e ≡ end_of (drop (i + 1) ns) →
    Puts (decimal (get_or ns i 0)) p one → Puts (e ∷ []) one two → Puts (numbers_spelt (drop (i + 1) ns)) two r → Puts (numbers_spelt (drop i ns)) p r
put_numbers ns i e p one two r h is a b d =
    rw (drop_first ns i h) (puts_more (decimal (get_or ns i 0)) (end_of (drop (i + 1) ns) ∷ numbers_spelt (drop (i + 1) ns)) p one r a
    (puts_more (end_of (drop (i + 1) ns) ∷ []) (numbers_spelt (drop (i + 1) ns)) one two r (rw is at b) d))

joined_map : {X Y : Type 0} (f : Y → List ℕ) (g : X → Y) (xs : List X) → flat_map (λ x. f (g x)) xs ≡ flat_map f (map g xs)
joined_map f g [] = refl
joined_map f g (x ∷ xs) = ap (λ t. f (g x) ++ t) (joined_map f g xs)

-- all elements of a list that is put
pub put_all : {X Y : Type 0} (f : Y → List ℕ) (g : X → Y) (xs : List X) (i : ℕ) (p q : Page) → length xs ≤ i →
    Puts (flat_map (λ x. f (g x)) (take i xs)) p q → Puts (flat_map f (map g xs)) p q
put_all f g xs i p q h a =
    puts_same (flat_map (λ x. f (g x)) (take i xs)) (flat_map f (map g xs)) p q (ap (flat_map (λ x. f (g x))) (take_all i xs h) ∙ joined_map f g xs) a

-- the moves of one vertex more
pub put_vertex_moves : (vs : List Vertex) (i : ℕ) (d : Vertex) (p q r : Page) → i < length vs →
    Puts (flat_map spelt (move_lines 0 (take i vs))) p q → Puts (flat_map spelt (map (move_line i) (get_or vs i d).moves)) q r →
    Puts (flat_map spelt (move_lines 0 (take (i + 1) vs))) p r
put_vertex_moves vs i d p q r h a b =
    let here : 0 + length (take i vs) ≡ i = omega (arith, length-take-le i vs (omega arith)) in
    let lines : move_lines 0 (take (i + 1) vs) ≡ move_lines 0 (take i vs) ++ map (move_line i) (get_or vs i d).moves =
    ap (move_lines 0) (take_more vs i d h) ∙ move_lines_push 0 (take i vs) (get_or vs i d) ∙ ap (λ n. move_lines 0 (take i vs) ++ map (move_line n) (get_or vs i d).moves) here in
    puts_same (flat_map spelt (move_lines 0 (take i vs)) ++ flat_map spelt (map (move_line i) (get_or vs i d).moves)) (flat_map spelt (move_lines 0 (take (i + 1) vs))) p r
    (sym (ap (flat_map spelt) lines ∙ flat_map-append spelt (move_lines 0 (take i vs)) (map (move_line i) (get_or vs i d).moves)))
    (puts_more (flat_map spelt (move_lines 0 (take i vs))) (flat_map spelt (map (move_line i) (get_or vs i d).moves)) p q r a b)

-- the whole text, part by part
pub text_parts : (a : Arena) → spelt (vertices (size a)) ++ (flat_map spelt (map vertex_line a.vertices) ++ (spelt (moves (move_count a.vertices)) ++ flat_map spelt (move_lines 0 a.vertices))) ≡ text_of a
text_parts a = ap (λ t. spelt (vertices (size a)) ++ t) (sym (flat_map-append spelt (map vertex_line a.vertices) (moves (move_count a.vertices) ∷ move_lines 0 a.vertices)))

-- what bytes hold once a text was put at their front
pub held : (text entry exit : List ℕ) (end : ℕ) → Adds text entry 0 exit end → Holds entry exit end text
held text entry exit end a = a entry [] (record { at_end = refl; same_length = refl; front = λ h. refl })
