-- Fields and lines: what stands at the front stands there in one way.
use Rattle.std.proofs.Common.{◌≡◌, ℕ, ◌+◌, ◌<◌, ◌≤◌, false, List, [], ◌∷◌, ◌++◌, length, codes, decimal, sym, refl, ap, ◌∙◌, ap₂, append_assoc, add-one, arith, get_or, take, drop, drop-cons, set}
use Rattle.std.specs.Char.{is_ascii_digit}
use Rattle.std.specs.List.{AllByRecursion}
use Rattle.std.proofs.lemmas.List.{append_cancel_left, append-nil, take_all, take_more_set}
use Rattle.text.specs.Lines.{Line, vertices, vertex, moves, move, spelt, Short, end_of, numbers_spelt}
use Rattle.text.specs.Tokens.{Numbered, Fielded, Lined, Spells}
use Rattle.text.proofs.Numerals.{one_number}

pub fielded_number : (bytes : List ℕ) (end n : ℕ) (rest : List ℕ) → is_ascii_digit end ≡ false → Fielded bytes end n rest → Numbered bytes n (end ∷ rest)
fielded_number bytes end n rest e f = record { small = f.small; ends = e; is = f.is }

one_field : (bytes : List ℕ) (end n m : ℕ) (rest other : List ℕ) → is_ascii_digit end ≡ false → Fielded bytes end n rest → Fielded bytes end m other → (n ≡ m) × (rest ≡ other)
one_field bytes end n m rest other e a b =
    let p = one_number bytes n m (end ∷ rest) (end ∷ other) (fielded_number bytes end n rest e a) (fielded_number bytes end m other e b) in
    (p.0, append_cancel_left (end ∷ []) rest other p.1)

-- what stands behind a word
pub behind : (word bytes rest other : List ℕ) → bytes ≡ word ++ rest → bytes ≡ word ++ other → rest ≡ other
behind word bytes rest other a b = append_cancel_left word rest other (sym a ∙ b)

same_end : (ns ms : List ℕ) → length ns ≡ length ms → end_of ns ≡ end_of ms
same_end [] [] e = refl
same_end [] (m ∷ ms) e = absurd (omega arith)
same_end (n ∷ ns) [] e = absurd (omega arith)
same_end (n ∷ ns) (m ∷ ms) e = refl

end_plain : (ns : List ℕ) → is_ascii_digit (end_of ns) ≡ false
end_plain [] = refl
end_plain (n ∷ ns) = refl

-- numbers as a line spells them: the word, the first, and the others
pub spells_word : (word bytes rest ns after : List ℕ) → bytes ≡ word ++ rest → Spells word bytes ns after → Spells [] rest ns after
spells_word word bytes rest ns after e s = record { small = s.small; is = behind word bytes rest (numbers_spelt ns ++ after) e s.is }

pub word_spells : (word bytes rest ns after : List ℕ) → bytes ≡ word ++ rest → Spells [] rest ns after → Spells word bytes ns after
word_spells word bytes rest ns after e s = record { small = s.small; is = e ∙ ap (λ t. word ++ t) s.is }

spells_first : (bytes : List ℕ) (n : ℕ) (ns after : List ℕ) → Spells [] bytes (n ∷ ns) after → Fielded bytes (end_of ns) n (numbers_spelt ns ++ after)
spells_first bytes n ns after s = record { small = s.small.0; is = s.is ∙ append_assoc (decimal n) (end_of ns ∷ numbers_spelt ns) after }

pub spells_more : (bytes : List ℕ) (end n : ℕ) (rest ns after : List ℕ) → end ≡ end_of ns → Fielded bytes end n rest → Spells [] rest ns after → Spells [] bytes (n ∷ ns) after
spells_more bytes end n rest ns after e f s = record {
  small = (f.small, s.small);
  is = f.is ∙ ap₂ (λ b t. decimal n ++ (b ∷ t)) e s.is ∙ sym (append_assoc (decimal n) (end_of ns ∷ numbers_spelt ns) after);
}

spells_others : (bytes : List ℕ) (end n m : ℕ) (rest ms after : List ℕ) → is_ascii_digit end ≡ false → end ≡ end_of ms → Fielded bytes end n rest → Spells [] bytes (m ∷ ms) after → (n ≡ m) × Spells [] rest ms after
spells_others bytes end n m rest ms after d e f s =
    let p = one_field bytes end n m rest (numbers_spelt ms ++ after) d f (rw e (spells_first bytes m ms after s)) in
    (p.0, record { small = s.small.1; is = p.1 })

pub drop_first : (ns : List ℕ) (i : ℕ) → i < length ns → drop i ns ≡ get_or ns i 0 ∷ drop (i + 1) ns
drop_first ns i h = rw (add-one, drop-cons ns i 0 h)

-- the same of some numbers from one place on
pub spells_behind : (bytes : List ℕ) (end n i : ℕ) (rest ns after : List ℕ) → is_ascii_digit end ≡ false → i < length ns → end ≡ end_of (drop (i + 1) ns) → Fielded bytes end n rest →
    Spells [] bytes (drop i ns) after → Spells [] rest (drop (i + 1) ns) after
spells_behind bytes end n i rest ns after d h e f s = (spells_others bytes end n (get_or ns i 0) rest (drop (i + 1) ns) after d e f (rw (drop_first ns i h) at s)).1

pub spells_at : (bytes : List ℕ) (end i : ℕ) (ns after : List ℕ) → i < length ns → end ≡ end_of (drop (i + 1) ns) → Spells [] bytes (drop i ns) after → Fielded bytes end (get_or ns i 0) (numbers_spelt (drop (i + 1) ns) ++ after)
spells_at bytes end i ns after h e s = rw e (spells_first bytes (get_or ns i 0) (drop (i + 1) ns) after (rw (drop_first ns i h) at s))

-- numbers kept in a list of fixed length: one more, and all
pub spells_set : (word bytes items : List ℕ) (i n : ℕ) (ms after : List ℕ) → i < length items → Spells word bytes (take i items ++ (n ∷ ms)) after → Spells word bytes (take (i + 1) (set items i n) ++ ms) after
spells_set word bytes items i n ms after h s = rw (take_more_set items i n h, append_assoc (take i items) (n ∷ []) ms) s

pub spells_all : (word bytes items : List ℕ) (i : ℕ) (rest : List ℕ) → length items ≤ i → Spells word bytes (take i items ++ []) rest → Spells word bytes items rest
spells_all word bytes items i rest h s = rw (append-nil (take i items), take_all i items h) at s

-- so many numbers stand behind a word in one way
pub one_spelling : (word bytes ns ms rest other : List ℕ) → length ns ≡ length ms → Spells word bytes ns rest → Spells word bytes ms other → (ns ≡ ms) × (rest ≡ other)
one_spelling word bytes ns ms rest other same a b =
    go ns ms (numbers_spelt ns ++ rest) same (record { small = a.small; is = refl }) (spells_word word bytes (numbers_spelt ns ++ rest) ms other a.is b)
  where
    go : (xs ys left : List ℕ) → length xs ≡ length ys → Spells [] left xs rest → Spells [] left ys other → (xs ≡ ys) × (rest ≡ other)
    go [] [] left same a b = (refl, sym a.is ∙ b.is)
    go [] (y ∷ ys) left same a b = absurd (omega arith)
    go (x ∷ xs) [] left same a b = absurd (omega arith)
    go (x ∷ xs) (y ∷ ys) left same a b =
        let ends : end_of xs ≡ end_of ys = same_end xs ys (omega arith) in
        let p = spells_others left (end_of xs) x y (numbers_spelt xs ++ rest) ys other (end_plain xs) ends (spells_first left x xs rest a) b in
        let q = go xs ys (numbers_spelt xs ++ rest) (omega arith) (record { small = a.small.1; is = refl }) p.1 in
        (ap₂ (λ z zs. z ∷ zs) p.0 q.0, q.1)

-- a line by its word and its numbers
abbrev pub word_of : Line → List ℕ
word_of (vertices n) = codes "vertices="
word_of (vertex owner colour) = codes "vertex="
word_of (moves n) = codes "moves="
word_of (move from to cost) = codes "move="

abbrev pub numbers_of : Line → List ℕ
numbers_of (vertices n) = n ∷ []
numbers_of (vertex owner colour) = owner ∷ colour ∷ []
numbers_of (moves n) = n ∷ []
numbers_of (move from to cost) = from ∷ to ∷ cost ∷ []

spelling : (line : Line) → spelt line ≡ word_of line ++ numbers_spelt (numbers_of line)
spelling (vertices n) = refl
spelling (vertex owner colour) = refl
spelling (moves n) = refl
spelling (move from to cost) = refl

short_small : (line : Line) → Short line → AllByRecursion (λ n. n < 100000) (numbers_of line)
short_small (vertices n) short = (short, tt)
short_small (vertex owner colour) short = (short.0, (short.1, tt))
short_small (moves n) short = (short, tt)
short_small (move from to cost) short = (short.0, (short.1, (short.2, tt)))

small_short : (line : Line) → AllByRecursion (λ n. n < 100000) (numbers_of line) → Short line
small_short (vertices n) small = small.0
small_short (vertex owner colour) small = (small.0, small.1.0)
small_short (moves n) small = small.0
small_short (move from to cost) small = (small.0, small.1.0, small.1.1.0)

pub lined_spells : (bytes : List ℕ) (line : Line) (rest : List ℕ) → Lined bytes line rest → Spells (word_of line) bytes (numbers_of line) rest
lined_spells bytes line rest l = record {
  small = short_small line l.short;
  is = l.is ∙ ap (λ t. t ++ rest) (spelling line) ∙ append_assoc (word_of line) (numbers_spelt (numbers_of line)) rest;
}

spells_lined : (bytes : List ℕ) (line : Line) (numbers rest : List ℕ) → numbers ≡ numbers_of line → Spells (word_of line) bytes numbers rest → Lined bytes line rest
spells_lined bytes line numbers rest e s = record {
  short = small_short line (rw e at s.small);
  is = s.is ∙ ap (λ ns. word_of line ++ (numbers_spelt ns ++ rest)) e ∙ sym (append_assoc (word_of line) (numbers_spelt (numbers_of line)) rest) ∙ ap (λ t. t ++ rest) (sym (spelling line));
}

-- the numbers of a list by their places
one_of : (ns : List ℕ) → length ns ≡ 1 → ns ≡ get_or ns 0 0 ∷ []
one_of [] e = absurd (omega arith)
one_of (a ∷ []) e = refl
one_of (a ∷ b ∷ ns) e = absurd (omega arith)

two_of : (ns : List ℕ) → length ns ≡ 2 → ns ≡ get_or ns 0 0 ∷ get_or ns 1 0 ∷ []
two_of [] e = absurd (omega arith)
two_of (a ∷ ns) e = ap (λ t. a ∷ t) (one_of ns (omega arith))

three_of : (ns : List ℕ) → length ns ≡ 3 → ns ≡ get_or ns 0 0 ∷ get_or ns 1 0 ∷ get_or ns 2 0 ∷ []
three_of [] e = absurd (omega arith)
three_of (a ∷ ns) e = ap (λ t. a ∷ t) (two_of ns (omega arith))

-- the four kinds of lines, from what their words and numbers spell
module _ {bytes ns rest : List ℕ} where
  pub vertices_lined : Spells (codes "vertices=") bytes ns rest → length ns ≡ 1 → Lined bytes (vertices (get_or ns 0 0)) rest
  vertices_lined s long = spells_lined bytes (vertices (get_or ns 0 0)) ns rest (one_of ns long) s

  pub vertex_lined : Spells (codes "vertex=") bytes ns rest → length ns ≡ 2 → Lined bytes (vertex (get_or ns 0 0) (get_or ns 1 0)) rest
  vertex_lined s long = spells_lined bytes (vertex (get_or ns 0 0) (get_or ns 1 0)) ns rest (two_of ns long) s

  pub moves_lined : Spells (codes "moves=") bytes ns rest → length ns ≡ 1 → Lined bytes (moves (get_or ns 0 0)) rest
  moves_lined s long = spells_lined bytes (moves (get_or ns 0 0)) ns rest (one_of ns long) s

  pub move_lined : Spells (codes "move=") bytes ns rest → length ns ≡ 3 → Lined bytes (move (get_or ns 0 0) (get_or ns 1 0) (get_or ns 2 0)) rest
  move_lined s long = spells_lined bytes (move (get_or ns 0 0) (get_or ns 1 0) (get_or ns 2 0)) ns rest (three_of ns long) s
