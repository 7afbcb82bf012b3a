use Rattle.std.proofs.Common.{◌≡◌, ℕ, ◌+◌, List, [], ◌++◌, length, take, drop}
use Rattle.text.specs.Tokens.{Spells}
use Rattle.text.proofs.lines.numbers_line.Given as goal

abbrev pub invariant-loop-place : goal.invariant-loop-place
invariant-loop-place g l = record {
  long : length l.number-items ≡ g.row.N;
  back : (ns after : List ℕ) → length ns ≡ g.row.N → Spells l.word l.bytes ns after → Spells [] l.rest (drop l.place ns) after;
  on : (ms after : List ℕ) → length ms + l.place ≡ g.row.N → Spells [] l.rest ms after → Spells l.word l.bytes (take l.place l.number-items ++ ms) after;
}
