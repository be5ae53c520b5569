use Rattle.std.proofs.Common.{◌≡◌, ◌-◌, ◌≤◌, length}
use Rattle.routine.specs.Routines.{routines}
use Rattle.rules.specs.Turn.{notified}
use Rattle.interlock.proofs.notify.notify.Given as goal

abbrev pub invariant-loop-q : goal.invariant-loop-q
invariant-loop-q l = (1 ≤ l.q) × (length l.table ≡ length l.initial.table) × (l.table ≡ notified (routines l.file.bytes.now) l.b l.initial.table (l.q - 1))
