use Rattle.std.proofs.Common.{◌≡◌, ◌+◌, ◌*◌, ◌≤◌, arith, ap, ◌∙◌, add-one, mul-le-mul, get_or-take}
use Rattle.routine.specs.Sum.{sum_below}
use Rattle.routine.specs.Limits.{checked_bytes}
use Rattle.routine.specs.Block.{check}
use Rattle.routine.proofs.check.check.Goals as goal

pub loop-i-preserved : goal.loop-i-preserved
unfolding sum_below
loop-i-preserved c =
    let heavy : (c.loop-i.i + 1) * c.from.result ≤ 508 * 255 = mul-le-mul {n₂ = 508} {m₂ = 255} (omega arith) (omega arith) in
    (omega (arith, heavy), rw (add-one c.loop-i.i) (omega (arith, c.loop-i.invariant.1, ap (λ b. (c.loop-i.i + 1) * b) (c.from.ensures ∙ get_or-take 508 c.args.block.now c.loop-i.i 0 (omega arith)))))

pub returns : goal.returns
unfolding check
returns c = let e : c.loop-i.i ≡ checked_bytes = omega arith in rw e at c.loop-i.invariant.1
