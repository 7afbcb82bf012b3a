use Rattle.std.proofs.Common.{◌+◌, arith}
use Rattle.drawn.proofs.Standing.{no_row}
use Rattle.drawn.proofs.LaidOut.{sum_more, laid_more, laid_all, total_front}
use Rattle.drawn.proofs.arrays.lay_out.Goals as goal

pub overflow_add-next : goal.overflow_add-next
overflow_add-next c =
    let inv = c.loop-row.invariant in
    let rs = c.args.rows.now in
    let i = c.loop-row.row-index in
    omega (arith, sum_more rs c.loop-row.rows c.loop-row.next i no_row inv.0 inv.1 (omega arith), total_front (i + 1) rs, c.requires)

pub loop-row-preserved : goal.loop-row-preserved
loop-row-preserved c =
    let inv = c.loop-row.invariant in
    let rs = c.args.rows.now in
    let i = c.loop-row.row-index in
    (sum_more rs c.loop-row.rows c.loop-row.next i no_row inv.0 inv.1 (omega arith), laid_more rs c.loop-row.rows c.loop-row.next i no_row inv.0 inv.1 (omega arith))

pub returns : goal.returns
returns c =
    let inv = c.loop-row.invariant in
    laid_all c.args.rows.now c.loop-row.rows c.loop-row.next c.loop-row.row-index no_row inv.0 inv.1 (omega arith)
