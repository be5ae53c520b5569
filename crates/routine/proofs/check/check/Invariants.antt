use Rattle.std.proofs.Common.{◌≡◌, ◌+◌, ◌*◌, ◌≤◌}
use Rattle.routine.specs.Sum.{sum_below}
use Rattle.routine.specs.Block.{byte}
use Rattle.routine.proofs.check.check.Given as goal

abbrev pub invariant-loop-i : goal.invariant-loop-i
invariant-loop-i l = (l.sum ≤ 1 + 129540 * l.i) × (l.sum ≡ 1 + sum_below l.i (λ j. (j + 1) * byte l.block j))
