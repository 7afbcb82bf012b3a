-- The tally of a voyage: entry i is 0 when colour 2 i + 1 does not wait, else one more than the
-- oldest such wait.
use Rattle.std.specs.Prelude.{ℕ, ◌+◌, ◌-◌, ◌%◌, min, max, cond, ◌&&◌, List, [], ◌∷◌, ◌++◌, map, take, drop, ◌==◌, nat_lt}

-- The greatest 64-bit number: no sum passes it.
abbrev pub greatest : ℕ
greatest = 18446744073709551615

-- An entry after a move of that cost: what waits waits longer.
abbrev pub grown : ℕ → ℕ → ℕ
grown cost t = cond (t == 0) 0 (min (t + cost) greatest)

-- The entry of colour q after an arrival at a colour: an odd one opens its own entry if it is 0, an even one
-- clears the entries of the colours below it.
abbrev pub met : ℕ → ℕ → ℕ → ℕ
met colour q t = cond (colour % 2 == 1) (cond (q == colour && t == 0) 1 t) (cond (nat_lt q colour) 0 t)

-- The entries after an arrival at a colour, where the first is of colour q and each other one of the colour two higher.
abbrev pub arrived : ℕ → ℕ → List ℕ → List ℕ
arrived colour q [] = []
arrived colour q (t ∷ ts) = met colour q t ∷ arrived colour (q + 2) ts

-- The entries with nothing waiting.
abbrev pub cleared : List ℕ → List ℕ
cleared ts = map (λ t. 0) ts

-- The greatest wait among the entries, 0 for none.
abbrev pub longest : List ℕ → ℕ
longest [] = 0
longest (t ∷ ts) = max (t - 1) (longest ts)

-- The highest colour that waits, where the first entry is of colour q; 0 for none.
abbrev pub highest_open : ℕ → List ℕ → ℕ
highest_open q [] = 0
highest_open q (t ∷ ts) = max (cond (t == 0) 0 q) (highest_open (q + 2) ts)

-- f on the first n entries; the others stay as they are.
abbrev pub on_first : ℕ → (List ℕ → List ℕ) → List ℕ → List ℕ
on_first n f ts = f (take n ts) ++ drop n ts
