use mathlib.Core.Path.{◌≡◌, sym, ap, ◌∙◌}
use Rattle.std.specs.Prelude.{None, Ok}
use Rattle.routine.specs.Limits.{set_of}
use Rattle.routine.specs.Test.{within}
use Rattle.routine.specs.Refusal.{handed_on}
use Rattle.routine.specs.Routines.{routines}
use Rattle.routine.specs.Reading.{file_refusal}
use Rattle.routine.proofs.Refused.{refused_is, good_is}
use Rattle.rules.specs.Consistent.{consistent}
use Rattle.rules.specs.Answers.{table_refusal}
use Rattle.rules.proofs.Orders.{due_file, due_5, due_6, due_none, due_table, due_7, due_nothing, checking_refuses, checking_passes}
use Rattle.consistency.proofs.ready.Goals as goal
use Rattle.consistency.proofs.ready.Goals.{In_ok-good, After-consistent, After-within}

read : (c : In_ok-good) → (file_refusal c.args.file.now ≡ None) × (c.in_ok-good.good.set ≡ set_of (routines c.args.file.now).N (routines c.args.file.now).B)
read c = good_is _ _ c.in_ok-good.ensures.0

judged : (c : After-consistent) → c.consistent.result ≡ consistent (routines c.args.file.now) c.args.table.now
judged c = c.consistent.ensures ∙ ap (λ f. consistent (routines f) c.args.table.now) c.in_ok-good.ensures.1

passed : (c : After-within) → table_refusal c.args.file.now c.args.table.now ≡ None
passed c =
    let r = read (goal.at.After-within c).In_ok-good in
    due_none _ _ r.0 c.if-table-ne-WORDS.false (sym (judged (goal.at.After-within c).After-consistent) ∙ c.if-not-consistent.false)

among : (c : After-within) → within 1 (routines c.args.file.now).N c.args.process ≡ c.within.result
among c = sym (c.within.ensures ∙ ap (λ n. within 1 n c.args.process) (c.processes.ensures.0 ∙ ap (λ f. (routines f).N) c.in_ok-good.ensures.1))

pub returns-in_err-good : goal.returns-in_err-good
returns-in_err-good c =
    let r = refused_is _ _ c.in_err-good.ensures in
    rw (handed_on _ _ c.from_residual.ensures.1) (checking_refuses _ _ _ _ (due_table _ _ _ _ (due_file _ _ _ r)))

pub returns-then-table-ne-WORDS : goal.returns-then-table-ne-WORDS
returns-then-table-ne-WORDS c =
    let r = read (goal.at.returns-then-table-ne-WORDS c).In_ok-good in
    checking_refuses _ _ _ _ (due_table _ _ _ _ (due_5 _ _ r.0 c.if-table-ne-WORDS.true))

pub returns-then-not-consistent : goal.returns-then-not-consistent
returns-then-not-consistent c =
    let r = read (goal.at.returns-then-not-consistent c).In_ok-good in
    let e = sym (judged (goal.at.returns-then-not-consistent c).After-consistent) ∙ c.if-not-consistent.true in
    checking_refuses _ _ _ _ (due_table _ _ _ _ (due_6 _ _ r.0 c.if-table-ne-WORDS.false e))

pub returns-then-not-within : goal.returns-then-not-within
returns-then-not-within c =
    let a = (goal.at.returns-then-not-within c).After-within in
    checking_refuses _ _ _ _ (due_7 _ _ _ (passed a) (among a ∙ c.if-not-within.true))

pub returns : goal.returns
returns c =
    let a = (goal.at.returns c).After-within in
    (checking_passes _ _ _ (due_nothing _ _ _ (passed a) (among a ∙ c.if-not-within.false)) ∙ ap Ok (sym (read (goal.at.returns c).In_ok-good).1), c.in_ok-good.ensures.1)
