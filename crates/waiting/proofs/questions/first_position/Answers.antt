use Rattle.std.proofs.Common.{rules, ◌≡◌, ◌+◌, ◌*◌, ap, ◌∙◌}
use Rattle.game.specs.Waiting.{place, arrive}
use Rattle.waiting.proofs.Answered.{first_there}
use Rattle.waiting.proofs.questions.first_position.Goals as goal

pub returns : goal.returns
returns g c =
    let a = g.C.Chart.meaning c.args.chart.now in
    let v = c.args.vertex in
    let k = c.in_ok-colour.colour in
    let is : c.place.result ≡ place a v (arrive 0 k) 0 =
    c.place.ensures ∙ (ap (λ j. (v * j + c.arrive.result) * 2 + 0) c.levels.ensures ∙ ap (λ j. place a v j 0) c.arrive.ensures) in
    first_there a v k c.place.result (search rules) (search rules) is
