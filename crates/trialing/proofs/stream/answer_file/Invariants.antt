use Rattle.std.specs.Prelude.{◌≤◌, length}
use Rattle.trialing.proofs.stream.answer_file.Given as goal

abbrev pub invariant-loop : goal.invariant-loop
invariant-loop l = l.left ≤ length l.input
