use Rattle.std.proofs.Common.{rules, ◌≡◌, ℕ, Some, None, sym, ◌∙◌, arith}
use Rattle.std.proofs.lemmas.Bool.{le-leb}
use Rattle.chart.specs.Refusals.{number_of}
use Rattle.helm.specs.States.{state_at}
use Rattle.helm.proofs.Looks.{move_none, move_some}
use Rattle.helm.proofs.Replies.{moving_absent, moving_over, goes}
use Rattle.helm.proofs.calls.move_on.Goals as goal

pub returns-in_err-step-clause-answer : goal.returns-in_err-step-clause-answer
returns-in_err-step-clause-answer g c turn =
    let a = g.C.Chart.meaning c.args.chart.now in
    let none : None ≡ c.move_at.result = search rules in
    let e = moving_absent a (state_at turn c.args.at.vertex c.args.at.so_far) c.args.number c.args.tally.now (number_of c.args.lacking)
    (move_none a c.args.at.vertex c.args.number (none ∙ c.move_at.ensures)) in
    let p = c.requires.no_place in
    grind (arith, e)

pub returns-then-at-ge-MOST_MOVES-clause-answer : goal.returns-then-at-ge-MOST_MOVES-clause-answer
returns-then-at-ge-MOST_MOVES-clause-answer g c turn =
    let a = g.C.Chart.meaning c.args.chart.now in
    let s = state_at turn c.args.at.vertex c.args.at.so_far in
    let y = c.in_ok-step.step in
    let some : Some y ≡ c.move_at.result = search rules in
    let is = move_some a s.vertex c.args.number y (some ∙ c.move_at.ensures) in
    sym (moving_over a s c.args.number c.args.tally.now (number_of c.args.lacking) is.there (le-leb 1000000 s.moves (omega arith)))

pub returns : goal.returns
returns g c =
    let a = g.C.Chart.meaning c.args.chart.now in
    let y = c.in_ok-step.step in
    let some : Some y ≡ c.move_at.result = search rules in
    let is = move_some a c.args.at.vertex c.args.number y (some ∙ c.move_at.ensures) in
    let z = λ (turn : ℕ). goes a (state_at turn c.args.at.vertex c.args.at.so_far) c.args.number (number_of c.args.lacking) c.args.tally.now y is (omega arith) _ c.sail.ensures.answer _ c.sail.ensures.after in
    record { answer = λ turn. (z turn).answer; after = λ turn. (z turn).after }
