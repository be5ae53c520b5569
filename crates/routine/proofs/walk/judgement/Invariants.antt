use mathlib.Core.Path.{◌≡◌}
use Prim.Native.Nat.{◌+◌, ◌≤◌}
use Rattle.routine.specs.First.{first_in}
use Rattle.std.specs.Prelude.{Ok}
use Rattle.routine.specs.Routines.{routines}
use Rattle.routine.specs.Rows.{RowOf}
use Rattle.routine.specs.Judging.{place_good, failing_place, routine_passes, failing_block}
use Rattle.routine.proofs.walk.judgement.Given as goal

abbrev pub invariant-loop-k : goal.invariant-loop-k
invariant-loop-k l =
    (l.verdict ≡ Ok tt) × RowOf l.row (routines l.file.bytes.now) l.p l.k × (first_in (place_good (routines l.file.bytes.now) l.p) l.k ((routines l.file.bytes.now).calls l.p + 1) ≡ failing_place (routines l.file.bytes.now) l.p)

abbrev pub invariant-walk : goal.invariant-walk
invariant-walk l =
    (1 ≤ l.p) × (l.verdict ≡ Ok tt) × (first_in (routine_passes (routines l.file.bytes.now)) l.p ((routines l.file.bytes.now).N + 1) ≡ failing_block (routines l.file.bytes.now))
