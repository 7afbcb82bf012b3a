use Rattle.std.proofs.Common.{◌≡◌, length, arith, rules}
use Rattle.drawn.proofs.Shifts.{rotated_left}
use Rattle.drawn.proofs.arrays.without_move.Goals as goal

pub returns-clause-front : goal.returns-clause-front
returns-clause-front c =
    let long : length c.args.moves ≡ 1024 = search rules in
    rotated_left c.args.moves c.rotate_left.new.self c.args.used c.args.at c.requires.within (omega arith) c.rotate_left.ensures.after
