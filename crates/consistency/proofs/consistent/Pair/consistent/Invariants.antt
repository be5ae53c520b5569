use mathlib.Core.Path.{◌≡◌}
use Prim.Native.Nat.{◌+◌}
use lib.ListN.{length}
use Rattle.routine.specs.Limits.{most_processes}
use Rattle.routine.specs.First.{first_in}
use Rattle.routine.specs.Routines.{routines}
use Rattle.rules.specs.Consistent.{process_good}
use Rattle.consistency.proofs.Rows.{RowsTo}
use Rattle.consistency.proofs.consistent.Pair.consistent.Given as goal

abbrev pub invariant-loop-i : goal.invariant-loop-i
invariant-loop-i l =
    (length l.held-items ≡ most_processes) × RowsTo l.held-items (routines l.self.file.bytes.now) l.self.table.now (l.i + 1) × (first_in (process_good (routines l.self.file.bytes.now) l.self.table.now) (l.i + 1) (most_processes + 1) ≡ first_in (process_good (routines l.self.file.bytes.now) l.self.table.now) 1 (most_processes + 1))
