use Rattle.text.proofs.Putting.{put_last_digit, put_more_digits}
use Rattle.text.proofs.writing.Page.+number.Goals as goal
use Rattle.text.proofs.writing.Page.+number.Goals.{then-number-ge10, else-number-ge10}

pub returns : goal.returns
returns t c =
    elim c.if-number-ge10.branch [
      | then-number-ge10 w ↦ put_more_digits _ _ _ _ c.ranges.number.fits w.if-number-ge10.true w.number.ensures (rw w.self-is at c.put.ensures)
      | else-number-ge10 w ↦ put_last_digit _ _ _ w.if-number-ge10.false (rw w.self-is at c.put.ensures)
    ]
