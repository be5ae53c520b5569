use Rattle.std.proofs.Common.{ap, sym, ◌∙◌}
use borrow.Author.Tests.{eq-eqb}
use lib.Dec.{eqb}
use Rattle.routine.specs.Test.{and}
use Rattle.routine.specs.Routines.{routines}
use Rattle.routine.specs.Calls.{call_now, no_call}
use Rattle.routine.proofs.Holding.{base_end}
use Rattle.rules.specs.Turn.{waits}
use Rattle.interlock.proofs.notify.waits.Goals as goal

pub returns-in-Some : goal.returns-in-Some
unfolding waits and
returns-in-Some c =
    let n = call_now _ _ _ _ c.requires.0 c.requires.1 (sym c.call_at.ensures ∙ c.in-Some.is) in
    ap (λ b. eqb b c.args.b) (rw c.call.ensures.0 at n.2) ∙ simp (eq-eqb _ _ (sym c.entry.ensures.0 ∙ c.if-entry-ne1.false))

pub returns-in-None : goal.returns-in-None
unfolding waits and
returns-in-None c =
    let f = c.args.file.formed in
    let n = no_call _ _ _ c.requires.0 c.requires.1 (f.few_calls _ c.requires.0 c.requires.1) (sym c.call_at.ensures ∙ c.in-None.is) in
    rw (base_end (routines c.args.file.bytes.now) c.args.q _ (rw c.call.ensures.0 at n)) (simp (eq-eqb _ _ (sym c.entry.ensures.0 ∙ c.if-entry-ne1.false)))
