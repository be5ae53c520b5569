use mathlib.Core.Path.{◌≡◌}
use Prim.Native.Nat.{◌+◌, ◌≤◌}
use Rattle.routine.specs.Limits.{most_bases}
use Rattle.routine.specs.First.{first_in}
use Rattle.consistency.specs.Holders.{base_good_in}
use Rattle.consistency.proofs.consistent.Pair.bases_good.Given as goal

abbrev pub invariant-loop-b : goal.invariant-loop-b
invariant-loop-b l = (1 ≤ l.b) × (first_in (base_good_in l.set.bases l.self.table.now l.rows) l.b (most_bases + 1) ≡ first_in (base_good_in l.set.bases l.self.table.now l.rows) 1 (most_bases + 1))
