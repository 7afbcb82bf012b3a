use Rattle.std.proofs.Common.{◌≡◌, [], length, sym, refl, ap, ap₂, rules}
use Rattle.std.proofs.lemmas.Result.{err_from_is_err_and}
use Rattle.std.proofs.lemmas.List.{nil_from_length}
use Rattle.std.proofs.lemmas.Bool.{eqb-true, eqb-false}
use Rattle.chart.specs.Refusals.{refused}
use Rattle.drawn.specs.Rules.{blank}
use Rattle.drawn.specs.Meaning.{sheet}
use Rattle.text.proofs.Fields.{vertices_lined, moves_lined}
use Rattle.text.proofs.Steps.{no_count, no_moves, from_vertices, from_moves_count, from_moves, all_read, more_left}
use Rattle.text.proofs.reading.draw.Goals as goal

pub returns-in_default : goal.returns-in_default
returns-in_default c = no_count _ blank 1 c.args.text.now c.in_default.ensures (ap₂ refused c.wrong_line.ensures.0 c.wrong_line.ensures.1)

pub returns-in_err-rest : goal.returns-in_err-rest
returns-in_err-rest c =
    let p = err_from_is_err_and c.from_residual.result c.from_residual.ensures.1 in
    let first = vertices_lined c.in-Some.ensures (search rules) in
    rw (p.1, p.2) (from_vertices _ c.args.text.now _ c.in-Some.counted.rest.now first (sheet c.args.chart.now) c.requires c.in_err-rest.ensures)

pub returns-in_default-numbers_line : goal.returns-in_default-numbers_line
returns-in_default-numbers_line c =
    let told = c.wrong_line-in_default-numbers_line.ensures in
    let first = vertices_lined c.in-Some.ensures (search rules) in
    let a = sheet c.draw_vertices.new.chart in
    from_moves_count _ c.args.text.now _ c.in-Some.counted.rest.now first (sheet c.args.chart.now) c.requires a c.in_ok-rest.rest.now (c.in_ok-rest.ensures _)
    (no_moves _ a _ c.in_ok-rest.rest.now c.in_default-numbers_line.ensures (ap₂ refused told.0 told.1))

pub returns-in_err-rest-2 : goal.returns-in_err-rest-2
returns-in_err-rest-2 c =
    let p = err_from_is_err_and c.from_residual-in_err-rest-2.result c.from_residual-in_err-rest-2.ensures.1 in
    let first = vertices_lined c.in-Some.ensures (search rules) in
    let second = moves_lined c.in-Some-numbers_line.ensures (search rules) in
    let a = sheet c.draw_vertices.new.chart in
    rw (p.1, p.2) (from_moves _ c.args.text.now _ c.in-Some.counted.rest.now first (sheet c.args.chart.now) c.requires a c.in_ok-rest.rest.now (c.in_ok-rest.ensures _) _ c.in-Some-numbers_line.counted.rest.now second c.in_err-rest-2.ensures)

pub returns-then-not-is_empty : goal.returns-then-not-is_empty
returns-then-not-is_empty c =
    let told = c.wrong_line-then-not-is_empty.ensures in
    let first = vertices_lined c.in-Some.ensures (search rules) in
    let second = moves_lined c.in-Some-numbers_line.ensures (search rules) in
    let a = sheet c.draw_vertices.new.chart in
    let rest = c.in_ok-rest-2.rest.now in
    let some : ¬ (rest ≡ []) = λ e. eqb-false (length rest) 0 (sym c.if-not-is_empty.ensures) (ap length e) in
    from_moves _ c.args.text.now _ c.in-Some.counted.rest.now first (sheet c.args.chart.now) c.requires a c.in_ok-rest.rest.now (c.in_ok-rest.ensures _) _ c.in-Some-numbers_line.counted.rest.now second
    (c.in_ok-rest-2.ensures _ (λ low. more_left _ (sheet c.draw_moves.new.chart) _ rest low some (ap₂ refused told.0 told.1)))

pub returns : goal.returns
returns c =
    let first = vertices_lined c.in-Some.ensures (search rules) in
    let second = moves_lined c.in-Some-numbers_line.ensures (search rules) in
    let a = sheet c.draw_vertices.new.chart in
    let rest = c.in_ok-rest-2.rest.now in
    let none : rest ≡ [] = nil_from_length rest (eqb-true (length rest) 0 (sym c.if-not-is_empty.ensures)) in
    from_moves _ c.args.text.now _ c.in-Some.counted.rest.now first (sheet c.args.chart.now) c.requires a c.in_ok-rest.rest.now (c.in_ok-rest.ensures _) _ c.in-Some-numbers_line.counted.rest.now second
    (c.in_ok-rest-2.ensures _ (λ low. all_read _ (sheet c.draw_moves.new.chart) _ rest low none refl))
