use native.Mathlib.Omega.{arith}
use mathlib.Core.Path.{sym, ap, ◌∙◌}
use mathlib.Core.Path.{refl}
use Prim.Native.Nat.{◌+◌}
use lib.ListN.{take, length-set}
use Rattle.std.proofs.Common.{length-take-le}
use Rattle.routine.specs.Test.{and_skip, and_stop}
use Rattle.routine.specs.Limits.{most_processes}
use Rattle.routine.specs.First.{first_more, walk_stops, walk_ends}
use Rattle.routine.specs.Routines.{routines}
use Rattle.rules.specs.Consistent.{consistent}
use Rattle.consistency.specs.Holders.{bases_good_in}
use Rattle.consistency.proofs.Rows.{rows_more, rows_done, bases_same}
use Rattle.consistency.proofs.consistent.Pair.consistent.Goals as goal

pub loop-i-init : goal.loop-i-init
loop-i-init c = (refl, λ p lo hi n. absurd (omega arith), refl)

pub returns-in_default : goal.returns-in_default
unfolding consistent
returns-in_default c =
    let l = c.loop-i in
    sym (and_stop _ _ (walk_stops _ 1 (l.i + 1) (most_processes + 1) l.invariant.2 (omega arith) c.in_default.ensures))

pub loop-i-preserved : goal.loop-i-preserved
loop-i-preserved c =
    let l = c.loop-i in
    let g = c.in-Some.ensures in (
      simp length-set l.invariant.0,
      rows_more l.held-items c.in-Some.row _ _ l.i l.invariant.0 (omega arith) l.invariant.1 g.1,
      sym (first_more _ (l.i + 1) (most_processes + 1) (omega arith) g.0) ∙ l.invariant.2,
    )

pub returns : goal.returns
unfolding consistent
returns c =
    let l = c.loop-i in
    let S = routines c.args.self.file.bytes.now in
    let few = c.args.self.file.formed.few_processes in
    c.bases_good.ensures
    ∙ ap (λ s. bases_good_in s.bases c.args.self.table.now (take s.processes l.held-items)) c.args.self.file.about
    ∙ bases_same S c.args.self.table.now (take S.N l.held-items) (length-take-le S.N l.held-items (omega arith)) (rows_done l.held-items S c.args.self.table.now few (l.i + 1) (omega arith) l.invariant.1)
    ∙ sym (and_skip _ _ (walk_ends _ 1 (l.i + 1) (most_processes + 1) l.invariant.2 (omega arith)))
