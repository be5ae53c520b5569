use Rattle.std.proofs.Common.{◌≡◌, None, Ok, sym, ap, ◌∙◌}
use Rattle.routine.specs.Refusal.{handed_on}
use Rattle.routine.specs.Routines.{routines}
use Rattle.rules.specs.Standing.{standing_case}
use Rattle.rules.specs.Answers.{table_refusal}
use Rattle.rules.proofs.Orders.{check_refused, check_passed, first_process, ready, standing_refuses, standing_is}
use Rattle.interlock.proofs.standing.Goals as goal
use Rattle.interlock.proofs.standing.Goals.{In_ok-good}

pub returns-in_err-good : goal.returns-in_err-good
returns-in_err-good c =
    let r = check_refused _ _ _ _ c.in_err-good.ensures in
    handed_on _ _ c.from_residual.ensures.1 ∙ sym (standing_refuses _ _ _ (sym (first_process _ _) ∙ r))

passed : (c : In_ok-good) → table_refusal c.args.file.now c.args.table.now ≡ None
passed c = sym (first_process _ _) ∙ (check_passed _ _ _ _ c.in_ok-good.ensures.0).0

pub invariant_of-stand : goal.invariant_of-stand
invariant_of-stand c = record { ready = rw c.in_ok-good.ensures.1 (ready _ _ (passed c)) }

pub returns : goal.returns
returns c =
    ap Ok (c.stand.ensures ∙ ap (λ f. standing_case (routines f) c.args.table.now) c.in_ok-good.ensures.1)
    ∙ sym (standing_is _ _ (passed (goal.at.returns c).In_ok-good))
