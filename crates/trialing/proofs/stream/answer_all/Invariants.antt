use Rattle.std.specs.Prelude.{◌≡◌, ◌≤◌, length}
use Rattle.trialing.proofs.stream.answer_all.Given as goal

abbrev pub invariant-loop-trial : goal.invariant-loop-trial
invariant-loop-trial l = (length l.rest ≤ length l.input) × (l.end ≤ length l.out) × (length l.out ≡ length l.initial.out)

abbrev pub decreases-loop-trial : goal.decreases-loop-trial
decreases-loop-trial l = length l.rest
