use Rattle.std.proofs.Common.{rules}
use Rattle.helm.proofs.Entries.{highest_is}
use Rattle.helm.proofs.tally.highest.Goals as goal

pub returns : goal.returns
returns c =
    highest_is c.args.waits.now c.map_or.result c.rposition-last.result
    (λ i e. record { within = search rules; waits = search rules; others = λ j l m. search rules; colour = search rules })
    (λ e. (search rules, λ j l. search rules))
