use Rattle.std.proofs.Common.{rules, arith, sym, ap, ◌∙◌, Some, add-zero}
use Rattle.chart.proofs.Lowest.{lowest_at, lowest_nowhere}
use Rattle.chart.proofs.dead_end.lowest_dead_end.Goals as goal

pub returns-then-branch-eq0 : goal.returns-then-branch-eq0
returns-then-branch-eq0 g c =
    let vs = (g.C.Chart.meaning c.args.chart.now).vertices in
    ap Some (sym (add-zero c.loop-vertex.vertex)) ∙ sym (lowest_at 0 vs c.loop-vertex.vertex (search rules) c.loop-vertex.invariant)

pub returns : goal.returns
returns g c = sym (lowest_nowhere 0 (g.C.Chart.meaning c.args.chart.now).vertices (λ v h. c.loop-vertex.invariant v (omega arith)))
