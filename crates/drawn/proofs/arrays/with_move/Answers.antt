use Rattle.std.proofs.Common.{◌≡◌, length, refl, arith, rules}
use Rattle.drawn.proofs.Shifts.{rotated_right}
use Rattle.drawn.proofs.arrays.with_move.Goals as goal

pub returns-clause-front : goal.returns-clause-front
returns-clause-front c =
    let long : length c.args.moves ≡ 1024 = search rules in
    rotated_right c.args.moves c.rotate_right.new.self c.args.used c.args.at c.args.one c.requires.within (omega arith) _ refl c.rotate_right.ensures.after
