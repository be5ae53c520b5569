use Rattle.std.proofs.Common.{◌≡◌, None, Ok, cond, sym, ap, ◌∙◌}
use Rattle.routine.specs.Refusal.{handed_on}
use Rattle.routine.specs.Test.{within_is}
use Rattle.routine.specs.Routines.{routines}
use Rattle.rules.specs.Turn.{moves, turned}
use Rattle.rules.specs.Answers.{turn_refusal}
use Rattle.rules.specs.declared.Answer.TheVariants as An
use Rattle.rules.proofs.Orders.{check_refused, check_passed, turn_ready, ready, turn_refuses, turn_goes}
use Rattle.interlock.proofs.turn.Goals as goal
use Rattle.interlock.proofs.turn.Goals.{In_ok-good}

pub returns-in_err-good : goal.returns-in_err-good
returns-in_err-good c =
    let r = turn_refuses _ _ c.args.process _ (check_refused _ _ _ _ c.in_err-good.ensures) in
    record { answer = handed_on _ _ c.from_residual.ensures.1 ∙ sym r.0; table = sym r.1 }

passed : (c : In_ok-good) → turn_refusal c.args.file.now c.args.table.now c.args.process ≡ None
passed c = (check_passed _ _ _ _ c.in_ok-good.ensures.0).0

pub step-requires : goal.step-requires
step-requires c =
    let r = turn_ready _ _ _ (passed (goal.at.step-requires c).In_ok-good) in
    let w = within_is 1 (routines c.args.file.now).N c.args.process r.1 in
    rw c.in_ok-good.ensures.1 (ready _ _ r.0, w.0, w.1)

pub returns : goal.returns
returns c =
    let g = turn_goes _ _ _ (passed (goal.at.returns c).In_ok-good) in
    let same = c.in_ok-good.ensures.1 in
    record {
      answer = ap Ok (c.step.ensures.answer ∙ ap (λ f. cond (moves (routines f) c.args.table.now c.args.process) An.Moved An.Idle) same) ∙ sym g.0;
      table = c.step.ensures.table ∙ ap (λ f. turned (routines f) c.args.table.now c.args.process) same ∙ sym g.1;
    }
