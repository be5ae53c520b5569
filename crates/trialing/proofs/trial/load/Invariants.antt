use Rattle.std.specs.Prelude.{◌≡◌}
use Rattle.trialing.specs.Trial.{loaded}
use Rattle.trialing.proofs.trial.load.Given as goal

abbrev pub invariant-loop-i : goal.invariant-loop-i
invariant-loop-i l = l.table ≡ loaded l.bytes l.initial.table l.i
