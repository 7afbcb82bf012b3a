-- What stands at the front of some bytes: a word, a number, or a line.
use Rattle.std.specs.Prelude.{◌≡◌, ℕ, ◌+◌, ◌-◌, ◌*◌, ◌<◌, false, List, [], ◌∷◌, ◌++◌, decimal}
use Rattle.std.specs.Char.{is_ascii_digit}
use Rattle.std.specs.List.{AllByRecursion}
use Rattle.text.specs.Lines.{Line, spelt, numbers_spelt, Short}

-- no digit is the first of them
abbrev pub NoDigit : List ℕ → Type 0
NoDigit [] = Unit {0}
NoDigit (c ∷ cs) = is_ascii_digit c ≡ false

-- A number of at most five digits, and no digit right behind it.
pub record Numbered (bytes : List ℕ) (n : ℕ) (rest : List ℕ) : Type 0 where
  pub small : n < 100000
  pub ends : NoDigit rest
  pub is : bytes ≡ decimal n ++ rest

-- A number of at most five digits, and the byte `end` right behind it.
pub record Fielded (bytes : List ℕ) (end n : ℕ) (rest : List ℕ) : Type 0 where
  pub small : n < 100000
  pub is : bytes ≡ decimal n ++ (end ∷ rest)

-- A line with short numbers.
pub record Lined (bytes : List ℕ) (line : Line) (rest : List ℕ) : Type 0 where
  pub short : Short line
  pub is : bytes ≡ spelt line ++ rest

-- A word, and behind it numbers of at most five digits, as a line spells them.
pub record Spells (word bytes numbers rest : List ℕ) : Type 0 where
  pub small : AllByRecursion (λ n. n < 100000) numbers
  pub is : bytes ≡ word ++ (numbers_spelt numbers ++ rest)

-- The number that digits write behind those that wrote n.
abbrev pub value_of : ℕ → List ℕ → ℕ
value_of n [] = n
value_of n (c ∷ cs) = value_of (n * 10 + (c - 48)) cs
