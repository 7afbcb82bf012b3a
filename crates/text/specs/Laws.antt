-- Text and chart lead to each other and back.
use Rattle.std.specs.Prelude.{◌≡◌, ℕ, List}
use Rattle.chart.specs.Arena.{Arena}
use Rattle.chart.specs.Refusals.{Outcome, done}
use Rattle.drawn.specs.declared.sheet.Drawn.{Drawn}
use Rattle.drawn.specs.Rules.{blank}
use Rattle.drawn.specs.Meaning.{sheet}
use Rattle.text.specs.Reading.{Due, count_due, Reads}
use Rattle.text.specs.Writing.{text_of}

-- What is written is read back as the same chart, for every drawn chart.
abbrev pub WrittenIsReadBack : Type 0
WrittenIsReadBack = (d : Drawn) (end : Outcome Arena) → Reads end blank count_due 1 (text_of (sheet d)) → end ≡ done (sheet d)

-- What is read and accepted is written back as the same bytes, for every string of bytes.
abbrev pub ReadIsWrittenBack : Type 0
ReadIsWrittenBack = (bytes : List ℕ) (a : Arena) → Reads (done a) blank count_due 1 bytes → text_of a ≡ bytes

-- Reading a string of bytes ends in one way only.
abbrev pub ReadingEndsInOneWay : Type 0
ReadingEndsInOneWay = (one other : Outcome Arena) (a : Arena) (due : Due) (k : ℕ) (bytes : List ℕ) → Reads one a due k bytes → Reads other a due k bytes → one ≡ other
