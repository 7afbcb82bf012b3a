use Rattle.std.proofs.Common.{◌≡◌, ◌++◌, map, take, drop}
use Rattle.helm.specs.Tally.{grown}
use Rattle.helm.proofs.tally.grow_all.Given as goal

abbrev pub invariant-loop-entry : goal.invariant-loop-entry
invariant-loop-entry l = l.waits ≡ map (grown l.cost) (take l.entry-index l.initial.waits) ++ drop l.entry-index l.initial.waits
