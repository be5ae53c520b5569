use Rattle.std.proofs.Common.{arith, refl}
use lib.Seq.{take-suc}
use native.Mathlib.Numerals.{add-one}
use Rattle.text.specs.Put.{nothing, then}
use Rattle.text.proofs.Text.put_bytes.Goals as goal

pub loop-byte-init : goal.loop-byte-init
loop-byte-init c = (refl, nothing _ _)

pub loop-byte-preserved : goal.loop-byte-preserved
loop-byte-preserved c =
    let l = c.loop-byte in
    (l.invariant.0, rw (add-one l.byte-index, take-suc c.args.bytes.now l.byte-index 0 (omega arith)) (then l.invariant.1 c.put_at-end.ensures))
