use Rattle.std.proofs.Common.{◌≡◌, ◌++◌, take, drop}
use Rattle.drawn.specs.Rows.{total, laid_out}
use Rattle.drawn.proofs.arrays.lay_out.Given as goal

abbrev pub invariant-loop-row : goal.invariant-loop-row
invariant-loop-row l = (l.next ≡ total (take l.row-index l.initial.rows)) × (l.rows ≡ laid_out 0 (take l.row-index l.initial.rows) ++ drop l.row-index l.initial.rows)
