use Rattle.std.proofs.Common.{◌++◌, drop}
use Rattle.text.specs.Lines.{numbers_spelt}
use Rattle.text.specs.declared.writing.Page.{Page}
use Rattle.text.specs.Pages.{Puts}
use Rattle.text.proofs.writing.Page.line.Given as goal

abbrev pub invariant-loop-place : goal.invariant-loop-place
invariant-loop-place l = (end : Page) → Puts (numbers_spelt (drop l.place l.numbers)) l.self end → Puts (l.word ++ numbers_spelt l.numbers) l.fn.self end
