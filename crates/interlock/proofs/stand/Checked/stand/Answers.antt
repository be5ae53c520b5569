use Rattle.std.proofs.Common.{◌+◌, refl, sym, ap, ◌∙◌, arith, inl, inr}
use Rattle.routine.specs.Routines.{routines}
use Rattle.interlock.proofs.Doings.{has_finished, does_move, StandsBefore, nobody, everybody, somebody, one_more}
use Rattle.interlock.proofs.stand.Checked.stand.Goals as goal
use Rattle.interlock.proofs.stand.Checked.stand.Goals.{Joined-doing, in-Finished, in-Stopped}

pub loop-p-init : goal.loop-p-init
loop-p-init c = nobody _ _

pub returns-in-Moves : goal.returns-in-Moves
unfolding has_finished does_move
returns-in-Moves c = sym (somebody c.args.self.ready _ (omega (arith, c.processes-p-end.ensures)) _ c.loop-p.invariant _ c.doing.ensures (ap does_move c.in-Moves.is) (ap has_finished c.in-Moves.is))

looked : (c : Joined-doing) → StandsBefore (routines c.args.self.file.bytes.now) c.args.self.table.now (c.loop-p.p + 1) c.match-doing.standing
unfolding has_finished does_move
looked c =
    let one = one_more c.args.self.ready c.loop-p.p (omega (arith, c.processes-p-end.ensures)) c.loop-p.standing c.loop-p.invariant c.doing.result c.doing.ensures in
    elim c.match-doing.branch [
      | in-Finished w ↦ one (ap does_move w.in-Finished.is) _ (w.standing-is ∙ rw w.in-Finished.is refl)
      | in-Stopped w ↦ elim w.in-Stopped.is [
        | inl e ↦ one (ap does_move e) _ (w.standing-is ∙ rw e refl)
        | inr e ↦ one (ap does_move e) _ (w.standing-is ∙ rw e refl)
      ]
    ]

pub loop-p-preserved : goal.loop-p-preserved
loop-p-preserved c = looked (goal.at.loop-p-preserved c).Joined-doing

pub returns-after-doing : goal.returns-after-doing
returns-after-doing c = everybody _ _ (c.loop-p.p + 1) _ (omega (arith, c.processes-p-end.ensures)) (looked (goal.at.returns-after-doing c).Joined-doing)
