use Rattle.std.proofs.Common.{rules}
use Rattle.std.proofs.lemmas.List.Edits.{map_over_more}
use Rattle.helm.specs.Tally.{grown}
use Rattle.helm.proofs.tally.grow_all.Goals as goal

pub loop-entry-preserved : goal.loop-entry-preserved
loop-entry-preserved c = rw c.grow.ensures (search (rules, map_over_more (grown c.args.cost)))
