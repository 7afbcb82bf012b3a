use Rattle.std.proofs.Common.{◌≡◌, zero, ◌+◌, ◌-◌, sym, ap, ◌∙◌, ap₂, rules, arith}
use Rattle.std.proofs.lemmas.Result.{err_from_is_err_and}
use Rattle.chart.specs.Refusals.{outcome, refused, number_of, place_of}
use Rattle.drawn.specs.Meaning.{sheet}
use Rattle.text.proofs.Fields.{move_lined}
use Rattle.text.proofs.Steps.{made_of, kept_ok, no_move, low_move, refused_move, next_move}
use Rattle.text.proofs.reading.draw_moves.Goals as goal

pub returns-in_default : goal.returns-in_default
returns-in_default c =
    c.loop-here.invariant _ (no_move _ (sheet c.loop-here.chart) c.loop-here.here-counter c.loop-here.rest.now (c.args.line + c.args.count - c.loop-here.here-counter) c.loop-here.low (omega arith) (λ ns rest long high. c.in_default.ensures ns rest long) (ap₂ refused c.wrong_line.ensures.0 c.wrong_line.ensures.1))

pub returns-then-from-low : goal.returns-then-from-low
returns-then-from-low c =
    let told = c.wrong_line-then-from-low.ensures in
    c.loop-here.invariant _ (low_move _ (sheet c.loop-here.chart) c.loop-here.here-counter c.loop-here.rest.now (c.args.line + c.args.count - c.loop-here.here-counter) c.loop-here.low _ _ _ c.in-Some.step.rest.now (omega arith) c.if-from-low.true
    (move_lined c.in-Some.ensures (search rules)) (ap₂ refused told.0 told.1))

pub returns-in_err-map_err : goal.returns-in_err-map_err
returns-in_err-map_err c =
    let p = err_from_is_err_and c.from_residual.result c.from_residual.ensures.1 in
    let q = made_of _ c.join.result c.map_err.result c.in_err-map_err.field-0.0 c.map_err.ensures.cases c.in_err-map_err.was in
    let refusal : c.in_err-map_err.field-0.0.refusal ≡ q.0 = search rules in
    let line : c.in_err-map_err.field-0.0.line ≡ c.loop-here.here-counter = search rules in
    rw (p.1, p.2) (c.loop-here.invariant _ (refused_move _ (sheet c.loop-here.chart) c.loop-here.here-counter c.loop-here.rest.now (c.args.line + c.args.count - c.loop-here.here-counter) c.loop-here.low _ _ _ c.in-Some.step.rest.now (number_of q.0) (place_of q.0) (omega arith) c.if-from-low.false
    (move_lined c.in-Some.ensures (search rules))
    (sym c.join.ensures.answer ∙ ap outcome q.1) (ap₂ (λ r l. refused (number_of r) l) refusal line)))

pub loop-here-preserved : goal.loop-here-preserved
loop-here-preserved c end r =
    let a = sheet c.loop-here.chart in
    let fewer : c.args.line + c.args.count - (c.loop-here.here-counter + 1) ≡ c.args.line + c.args.count - c.loop-here.here-counter - 1 = omega arith in
    let ok = kept_ok _ c.join.result c.map_err.result _ c.map_err.ensures.cases c.in_ok-map_err.was in
    c.loop-here.invariant end (next_move end a c.loop-here.here-counter c.loop-here.rest.now (c.args.line + c.args.count - c.loop-here.here-counter) c.loop-here.low _ _ _ c.in-Some.step.rest.now _ (omega arith) c.if-from-low.false
    (move_lined c.in-Some.ensures (search rules))
    (sym c.join.ensures.answer ∙ ap outcome ok) (rw (c.join.ensures.after, fewer) at r))

pub returns : goal.returns
returns c end ready =
    let none : c.args.line + c.args.count - c.loop-here.here-counter ≡ zero = omega arith in
    let same : c.loop-here.here-counter ≡ c.args.line + c.args.count = omega arith in
    c.loop-here.invariant end (rw (none, same) (ready c.loop-here.low))
