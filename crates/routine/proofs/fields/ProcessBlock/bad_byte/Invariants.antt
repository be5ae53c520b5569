use Rattle.std.proofs.Common.{◌≡◌, ℕ, ◌<◌, true}
use Rattle.routine.specs.Block.{byte_good}
use Rattle.routine.proofs.fields.ProcessBlock.bad_byte.Given as goal

abbrev pub invariant-loop-i : goal.invariant-loop-i
invariant-loop-i l = (k : ℕ) → k < l.i → byte_good l.self.set.processes l.self.set.bases l.self.process l.self.block.now k ≡ true
