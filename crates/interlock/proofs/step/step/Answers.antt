use Rattle.std.proofs.Common.{◌≡◌, Some, sym, ap, ◌∙◌, arith, eq-eqb, ne_eqb}
use Rattle.std.specs.Prelude.{IsOkAnd}
use Rattle.routine.specs.Routines.{routines}
use Rattle.routine.specs.Calls.{call_at}
use Rattle.routine.specs.Rows.{RowOf}
use Rattle.routine.specs.Kind.{kind_number}
use Rattle.rules.specs.Table.{call, phase, words_at}
use Rattle.rules.specs.Phase.{phase_number}
use Rattle.rules.specs.Turn.{next_at, moves, turned, settle}
use Rattle.routine.proofs.Holding.{kind_known, is_ok}
use Rattle.interlock.proofs.Looks.{finished, follows, few_calls, now, few_readers, looks}
use Rattle.interlock.proofs.step.step.Goals as goal
use Rattle.interlock.proofs.step.step.Goals.{After-call_at, In_default, In-Some, In-None, After-try_from, After-follow, After-next, then-turn-from, else-turn-from}

asked : (c : After-call_at) → c.call_at.result ≡ call_at c.args.file.bytes.now c.args.p (call c.args.table.now c.args.p)
asked c = c.call_at.ensures ∙ ap (call_at c.args.file.bytes.now c.args.p) c.call-k.ensures.0

there : (c : In-Some) → call_at c.args.file.bytes.now c.args.p (call c.args.table.now c.args.p) ≡ Some c.in-Some.call
there c = sym (asked (goal.at.In-Some c).After-call_at) ∙ c.in-Some.is

row : (c : After-follow) → IsOkAnd c.follow.result (λ row. RowOf row (routines c.args.file.bytes.now) c.args.p (call c.args.table.now c.args.p))
row c = follows c.requires _ (simp (c.follow.ensures, c.bytes.ensures, c.call-k.ensures.0))

kind : (c : After-try_from) → IsOkAnd c.try_from.result (λ kind. kind_number kind ≡ c.in-Some.call.kind)
kind c =
    let n = now c.requires _ (there (goal.at.After-try_from c).In-Some) in
    kind_known _ c.args.file.formed _ _ _ c.requires.1 c.requires.2 n.0 n.1 _ c.try_from.ensures

pub unwrap-kind-requires : goal.unwrap-kind-requires
unwrap-kind-requires c = is_ok _ _ (kind (goal.at.unwrap-kind-requires c).After-try_from)

pub unwrap-row-requires : goal.unwrap-row-requires
unwrap-row-requires c = is_ok _ _ (row c)

pub invariant_of-turn : goal.invariant_of-turn
unfolding words_at
invariant_of-turn c =
    let is = there (goal.at.invariant_of-turn c).In-Some in
    record {
      few_readers = omega (arith, ap (λ w. w.count) c.words_at.ensures, few_readers c.requires _ is);
      few_calls = omega (arith, ap (λ w. w.call) c.words_at.ensures, few_calls c.requires);
    }

-- what the turn leaves of the words is what the definition says
told : (c : After-next) → c.next.result ≡ next_at (routines c.args.file.bytes.now) c.args.table.now c.args.p
told c =
    let r = rw c.unwrap-row.ensures at (row (goal.at.After-next c).After-follow) in
    let k = rw c.unwrap-kind.ensures at (kind (goal.at.After-next c).After-try_from) in
    simp (c.next.ensures, k, c.mark_in.ensures, c.words_at.ensures, looks c.requires _ (there (goal.at.After-next c).In-Some) _ r)

pub returns-in_default-clause-answer : goal.returns-in_default-clause-answer
unfolding moves
returns-in_default-clause-answer c = simp (finished c.requires (sym (asked (goal.at.In_default c).After-call_at) ∙ c.in_default.is))

pub returns-in_default-clause-table : goal.returns-in_default-clause-table
unfolding turned settle
returns-in_default-clause-table c = simp (finished c.requires (sym (asked (goal.at.In_default c).After-call_at) ∙ c.in_default.is))

pub returns-in-None-clause-answer : goal.returns-in-None-clause-answer
unfolding moves
returns-in-None-clause-answer c = simp (sym (told (goal.at.In-None c).After-next) ∙ c.in-None.is)

pub returns-in-None-clause-table : goal.returns-in-None-clause-table
unfolding turned settle
returns-in-None-clause-table c = simp (sym (told (goal.at.In-None c).After-next) ∙ c.in-None.is)

pub returns-after-turn-from-clause-answer : goal.returns-after-turn-from-clause-answer
unfolding moves
returns-after-turn-from-clause-answer c = simp (sym (told (goal.at.returns-after-turn-from-clause-answer c).After-next) ∙ c.in-Some-next.is)

pub returns-after-turn-from-clause-table : goal.returns-after-turn-from-clause-table
unfolding turned settle words_at phase_number
returns-after-turn-from-clause-table c =
    let e = sym (told (goal.at.returns-after-turn-from-clause-table c).After-next) ∙ c.in-Some-next.is in
    let b = (now c.requires _ (there (goal.at.returns-after-turn-from-clause-table c).In-Some)).2 in
    let ph = ap (λ w. w.phase) c.words_at.ensures in
    elim c.if-turn-from.branch [
      | then-turn-from w ↦ simp (c.put_words.ensures, w.table-is, w.notify.ensures, b, e, eq-eqb (phase c.args.table.now c.args.p) 6 (sym ph ∙ w.if-turn-from.true ∙ c.from.ensures))
      | else-turn-from w ↦ simp (c.put_words.ensures, w.table-is, b, e, ne_eqb (phase c.args.table.now c.args.p) 6 (λ z. w.if-turn-from.false (ph ∙ z ∙ sym c.from.ensures)))
    ]
