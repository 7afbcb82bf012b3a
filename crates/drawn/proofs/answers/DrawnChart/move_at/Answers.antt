use Rattle.std.proofs.Common.{◌≡◌, ◌+◌, ◌-◌, take, drop, Some, None, sym, ap, ◌∙◌, arith}
use Rattle.std.specs.List.{slice_get}
use Rattle.std.proofs.lemmas.Grind.{common_steps}
use Rattle.std.proofs.lemmas.Option.{gets}
use Rattle.drawn.specs.Meaning.{rows}
use Rattle.drawn.proofs.Standing.{ends_in, its_moves_are, move_is, no_moves}
use Rattle.drawn.proofs.answers.DrawnChart.move_at.Goals as goal

pub returns-in_err-row : goal.returns-in_err-row
returns-in_err-row c =
    let none : slice_get (rows c.args.self.now) c.args.vertex ≡ None = sym c.in_err-row.ensures in
    c.from_residual.ensures ∙ sym (no_moves c.args.self.now c.args.vertex none c.args.number)

pub overflow_add-row : goal.overflow_add-row
overflow_add-row c =
    let e = ends_in c.args.self.now c.args.vertex c.in_ok-row.row.now (sym c.in_ok-row.ensures) in
    let few = c.args.self.now.few in
    omega arith

pub offset_bounds-self-row : goal.offset_bounds-self-row
offset_bounds-self-row c =
    let e = ends_in c.args.self.now c.args.vertex c.in_ok-row.row.now (sym c.in_ok-row.ensures) in
    let few = c.args.self.now.few in
    omega arith

pub slice_bounds-get-end : goal.slice_bounds-get-end
slice_bounds-get-end c =
    let e = ends_in c.args.self.now c.args.vertex c.in_ok-row.row.now (sym c.in_ok-row.ensures) in
    let few = c.args.self.now.few in
    omega arith

pub returns : goal.returns
returns c =
    let d = c.args.self.now in
    let r = c.in_ok-row.row.now in
    let at : slice_get (rows d) c.args.vertex ≡ Some r = sym c.in_ok-row.ensures in
    let long : r.start + r.degree - r.start ≡ r.degree = omega arith in
    let read : c.copied.result ≡ slice_get (take (r.start + r.degree - r.start) (drop r.start d.moves)) c.args.number = grind (arith, common_steps, gets) in
    read
    ∙ ap (λ n. slice_get (take n (drop r.start d.moves)) c.args.number) long
    ∙ ap (λ ms. slice_get ms c.args.number) (sym (its_moves_are d c.args.vertex r at))
    ∙ sym (move_is d c.args.vertex r at c.args.number)
