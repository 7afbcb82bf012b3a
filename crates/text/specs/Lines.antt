-- The lines of a chart text, and the bytes of each.
use Rattle.std.specs.Prelude.{ℕ, ◌<◌, List, [], ◌∷◌, ◌++◌, codes, decimal}

-- The number of vertices; a vertex with its owner and colour; the number of moves; a move with the
-- vertex that it leaves, the one that it arrives at and its cost.
pub data Line : Type 0 where
  vertices : ℕ → Line
  vertex : ℕ → ℕ → Line
  moves : ℕ → Line
  move : ℕ → ℕ → ℕ → Line

-- Byte 44 is the comma, byte 10 the line end. A number is written in decimal, with no leading zero
-- but 0 itself.
abbrev pub spelt : Line → List ℕ
spelt (vertices n) = codes "vertices=" ++ (decimal n ++ (10 ∷ []))
spelt (vertex owner colour) = codes "vertex=" ++ (decimal owner ++ (44 ∷ (decimal colour ++ (10 ∷ []))))
spelt (moves n) = codes "moves=" ++ (decimal n ++ (10 ∷ []))
spelt (move from to cost) = codes "move=" ++ (decimal from ++ (44 ∷ (decimal to ++ (44 ∷ (decimal cost ++ (10 ∷ []))))))

-- The byte behind a number that these follow on its line.
abbrev pub end_of : List ℕ → ℕ
end_of [] = 10
end_of (n ∷ ns) = 44

-- Numbers as a line spells them behind its word: a comma stands behind each but the last, and the
-- line end behind that one.
abbrev pub numbers_spelt : List ℕ → List ℕ
numbers_spelt [] = []
numbers_spelt (n ∷ ns) = decimal n ++ (end_of ns ∷ numbers_spelt ns)

-- Every number of the line has at most five digits.
abbrev pub Short : Line → Type 0
Short (vertices n) = n < 100000
Short (vertex owner colour) = (owner < 100000) × (colour < 100000)
Short (moves n) = n < 100000
Short (move from to cost) = (from < 100000) × (to < 100000) × (cost < 100000)
