use Rattle.std.proofs.Common.{arith, refl, sym, length-set}
use lib.Seq.{set_out}
use Rattle.text.specs.Put.{after}
use Rattle.text.proofs.put_at.Goals as goal

pub returns-then-at-buffer : goal.returns-then-at-buffer
unfolding after
returns-then-at-buffer c = record { is = refl; ends = omega arith; size = simp length-set }

pub returns : goal.returns
unfolding after
returns c = record { is = sym (set_out _ _ _ (omega arith)); ends = omega arith; size = refl }
