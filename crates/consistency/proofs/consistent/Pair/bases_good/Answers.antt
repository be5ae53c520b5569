use native.Mathlib.Omega.{arith}
use mathlib.Core.Path.{sym, ◌∙◌}
use Prim.Native.Nat.{◌+◌}
use Rattle.routine.specs.Limits.{most_bases}
use Rattle.routine.specs.First.{first_more, walk_stops, walk_ends}
use Rattle.consistency.specs.Holders.{bases_good_in}
use Rattle.consistency.proofs.consistent.Pair.bases_good.Goals as goal

pub returns-then-not-base_good : goal.returns-then-not-base_good
unfolding bases_good_in
returns-then-not-base_good c =
    let l = c.loop-b in
    rw (← c.set-set.ensures) (sym (walk_stops _ 1 l.b (most_bases + 1) l.invariant.1 (omega arith) (sym c.base_good.ensures ∙ c.if-not-base_good.true)))

pub loop-b-preserved : goal.loop-b-preserved
loop-b-preserved c =
    let l = c.loop-b in
    (omega arith, sym (first_more _ l.b (most_bases + 1) (omega arith) (sym c.base_good.ensures ∙ c.if-not-base_good.false)) ∙ l.invariant.1)

pub returns : goal.returns
unfolding bases_good_in
returns c = rw (← c.set-set.ensures) (sym (walk_ends _ 1 c.loop-b.b (most_bases + 1) c.loop-b.invariant.1 (omega arith)))
