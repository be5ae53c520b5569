use Rattle.std.proofs.Common.{rules}
use Rattle.rules.specs.Turn.{with_marks, to_phase, await}
use Rattle.rules.specs.Phase.{phase_number}
use Rattle.interlock.proofs.next.Turn.await_wake.Goals as goal

pub returns-then-self-ne1 : goal.returns-then-self-ne1
unfolding await
returns-then-self-ne1 c = search rules

pub returns : goal.returns
unfolding await with_marks to_phase phase_number
returns c = search rules
