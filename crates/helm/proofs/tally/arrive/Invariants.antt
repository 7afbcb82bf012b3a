use Rattle.std.proofs.Common.{◌≡◌, ℕ, ◌+◌, ◌*◌, ◌<◌, ◌≤◌, slice_index}
use Rattle.helm.specs.Tally.{met}
use Rattle.helm.proofs.tally.arrive.Given as goal

-- the entries below i have met the colour, and the others stand as they did
abbrev pub invariant-loop-i : goal.invariant-loop-i
invariant-loop-i l = record {
  met : (k : ℕ) → k < l.i → slice_index l.waits k ≡ met l.colour (2 * k + 1) (slice_index l.initial.waits k);
  rest : (k : ℕ) → l.i ≤ k → slice_index l.waits k ≡ slice_index l.initial.waits k;
}
