use Rattle.std.proofs.Common.{rules, arith}
use Rattle.helm.proofs.Entries.{arrived_is}
use Rattle.helm.proofs.tally.arrive.Goals as goal

pub returns : goal.returns
returns c = arrived_is c.args.colour c.args.waits.now c.loop-i.waits (search rules) (λ i h. c.loop-i.invariant.met i (omega arith))
