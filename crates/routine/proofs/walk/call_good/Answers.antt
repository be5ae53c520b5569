use Rattle.std.proofs.Common.{rules}
use Rattle.routine.specs.Judging.{call_good, is_take}
use Rattle.routine.specs.Kind.{kind_number}
use Rattle.routine.proofs.Walking.{lower_is}
use Rattle.routine.proofs.walk.call_good.Goals as goal

pub returns-in-Modlock : goal.returns-in-Modlock
unfolding call_good is_take kind_number
returns-in-Modlock c =
    let lower = lower_is _ _ _ c.only_lower.ensures in
    search rules
