use Rattle.routine.specs.Routines.{routines}
use Rattle.interlock.proofs.Doings.{StandsBefore}
use Rattle.interlock.proofs.stand.Checked.stand.Given as goal

abbrev pub invariant-loop-p : goal.invariant-loop-p
invariant-loop-p l = StandsBefore (routines l.self.file.bytes.now) l.self.table.now l.p l.standing
