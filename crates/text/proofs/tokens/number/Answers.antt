use Rattle.std.proofs.Common.{refl, arith}
use Rattle.text.proofs.Numerals.{runs, run_digits, run_some, run_short, run_plain, run_numbered}
use Rattle.text.proofs.tokens.number.Goals as goal
use Rattle.text.proofs.tokens.number.Goals.{then-is_empty-via-then-is_empty, then-is_empty-via-else-is_empty+then-run-gt-MOST_DIGITS, then-is_empty-via-else-is_empty+else-run-gt-MOST_DIGITS+then-padded}

pub returns-then-is_empty : goal.returns-then-is_empty
returns-then-is_empty c n rest here =
    let r = runs _ _ _ _ c.digits.ensures.run c.split_at.ensures.front c.split_at.ensures.back in
    let some = run_some _ _ _ r n rest here in
    let short = run_short _ _ _ r n rest here in
    elim c.then-is_empty.branch [
      | then-is_empty-via-then-is_empty w ↦ grind (arith, w.if-is_empty.ensures)
      | then-is_empty-via-else-is_empty+then-run-gt-MOST_DIGITS w ↦ omega (arith, w.if-run-gt-MOST_DIGITS.true)
      | then-is_empty-via-else-is_empty+else-run-gt-MOST_DIGITS+then-padded w ↦ let p = w.if-padded.ensures.0 refl in run_plain _ _ _ r n rest here p.0 p.1
    ]

pub value-requires-clause-all : goal.value-requires-clause-all
value-requires-clause-all c = run_digits _ _ _ (runs _ _ _ _ c.digits.ensures.run c.split_at.ensures.front c.split_at.ensures.back)

pub returns : goal.returns
returns c =
    let r = runs _ _ _ _ c.digits.ensures.run c.split_at.ensures.front c.split_at.ensures.back in
    rw c.value.ensures (run_numbered _ _ _ r (grind (arith, c.if-is_empty.ensures)) c.if-run-gt-MOST_DIGITS.false (λ more zero. let e = c.if-padded.ensures.1 (more, zero) in cc))
