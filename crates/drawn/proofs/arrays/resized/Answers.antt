use Rattle.std.proofs.Common.{◌≡◌, ℕ, ◌-◌, ◌<◌, ◌≤◌, List, length, get_or, take, set, ap, ◌∙◌, arith, length-take-le, rules}
use Rattle.std.proofs.lemmas.List.{take_at}
use Rattle.drawn.specs.declared.row.Row.{Row}
use Rattle.drawn.specs.Rows.{laid_out, with_degree}
use Rattle.drawn.specs.Rules.{adjusted}
use Rattle.drawn.proofs.Adjusted.{take_set_adjusted, length_adjusted}
use Rattle.drawn.proofs.Standing.{no_row}
use Rattle.drawn.proofs.LaidOut.{length_laid_out}
use Rattle.drawn.proofs.arrays.resized.Goals as goal

-- what is lent to lay_out
lent : (rows : List Row) (count vertex degree : ℕ) → vertex < count → count ≤ length rows → take (count - 0) (set rows vertex (with_degree degree (get_or rows vertex no_row))) ≡ adjusted (with_degree degree) (take count rows) vertex
lent rows count vertex degree h l =
    let all : count - 0 ≡ count = omega arith in
    ap (λ n. take n (set rows vertex (with_degree degree (get_or rows vertex no_row)))) all ∙ take_set_adjusted (with_degree degree) count rows vertex no_row h l

pub lay_out-requires : goal.lay_out-requires
lay_out-requires c =
    let wide : length c.args.rows ≡ 128 = search rules in
    rw (lent c.args.rows c.args.count c.args.vertex c.args.degree c.requires.within (omega (arith, c.requires.room))) c.requires.few

pub returns-clause-front : goal.returns-clause-front
returns-clause-front c =
    let wide : length c.args.rows ≡ 128 = search rules in
    let front = lent c.args.rows c.args.count c.args.vertex c.args.degree c.requires.within (omega (arith, c.requires.room)) in
    let is : c.lay_out.new.rows ≡ laid_out 0 (adjusted (with_degree c.args.degree) (take c.args.count c.args.rows) c.args.vertex) = c.lay_out.ensures ∙ ap (laid_out 0) front in
    let long = ap length is ∙ length_laid_out 0 (adjusted (with_degree c.args.degree) (take c.args.count c.args.rows) c.args.vertex) ∙ length_adjusted (with_degree c.args.degree) (take c.args.count c.args.rows) c.args.vertex ∙ length-take-le c.args.count c.args.rows (omega (arith, c.requires.room)) in
    take_at c.lay_out.new.rows _ c.args.count long ∙ is
