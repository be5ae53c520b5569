-- The tests come in the order of the sentences, but for the marks; each answer stops at the first that fails.
use borrow.Author.Tests.{lt-leb}
use lib.Dec.{leb}
use native.Mathlib.Omega.{arith}
use native.Mathlib.Decide.{ℕ_discrete}
use mathlib.Core.Path.{◌≡◌, refl, sym, ◌∙◌}
use mathlib.Core.Bool.{true, false}
use Prim.Native.Nat.{◌≤◌, ◌<◌}
use Rattle.std.specs.Prelude.{MatchOption, IsOkAnd}
use Rattle.std.specs.Result.{result_ok}
use Rattle.routine.specs.Test.{and, and_false}
use Rattle.routine.specs.Routines.{routines, kind_now, base_now}
use Rattle.routine.specs.Calls.{calls_are, call_now, no_call}
use Rattle.routine.specs.Rows.{RowOf}
use Rattle.routine.specs.Kind.{kind_number}
use Rattle.routine.proofs.Holding.{kind_known, is_ok}
use Rattle.rules.specs.Table.{call, phase, wake, entry}
use Rattle.rules.specs.Phase.{phase_number}
use Rattle.rules.specs.Consistent.{mark_now, effective, call_fits, completed_fine, stands_well, marks_allowed, process_fits}
use Rattle.consistency.proofs.Seen.{phase_low, call_fits_means, mark_seen, held_seen, kept, followed}
use Rattle.consistency.proofs.consistent.Pair.process_fits.Goals as goal
use Rattle.consistency.proofs.consistent.Pair.process_fits.Goals.{After-ok, After-ok-2, In_ok-phase, In_ok-row, After-call_fits, Else-not-call_fits, After-marks_allowed, After-try_from-2, After-stands_well}

-- what the code reads of the phase
phased : (c : After-ok) → MatchOption (result_ok c.try_from.result) (7 < phase c.args.self.table.now c.args.p) (λ ph. phase_number ph ≡ phase c.args.self.table.now c.args.p)
phased c = kept (λ ph. phase_number ph ≡ phase c.args.self.table.now c.args.p) (7 < phase c.args.self.table.now c.args.p) _ c.try_from.result (λ e x. x.1) (rw c.phase.ensures.0 at c.try_from.ensures)

phase_is : (c : In_ok-phase) → phase_number c.in_ok-phase.phase ≡ phase c.args.self.table.now c.args.p
phase_is c = rw (← c.in_ok-phase.ensures.value) at (phased (goal.at.In_ok-phase c).After-ok)

small : (c : In_ok-phase) → leb (phase c.args.self.table.now c.args.p) 7 ≡ true
small c = rw (← phase_is c) (phase_low c.in_ok-phase.phase)

placed : (c : After-call_fits) → c.call_fits.result ≡ call_fits ((routines c.args.self.file.bytes.now).calls c.args.p) (call c.args.self.table.now c.args.p) (phase c.args.self.table.now c.args.p)
placed c =
    rw (c.calls_in.ensures, calls_are c.args.self.file.bytes.now c.args.p c.requires.0 c.requires.1, c.call-k.ensures.0, phase_is (goal.at.After-call_fits c).In_ok-phase) at c.call_fits.ensures

-- so CALL is at most n, and n only in phase 0
low : (c : Else-not-call_fits) → (call c.args.self.table.now c.args.p ≤ (routines c.args.self.file.bytes.now).calls c.args.p) × ((phase c.args.self.table.now c.args.p ≡ 0 → ⊥) → call c.args.self.table.now c.args.p < (routines c.args.self.file.bytes.now).calls c.args.p)
low c = call_fits_means _ _ _ (sym (placed (goal.at.Else-not-call_fits c).After-call_fits) ∙ c.if-not-call_fits.false)

allowed : (c : After-marks_allowed) → c.marks_allowed.result ≡ marks_allowed (phase c.args.self.table.now c.args.p) (wake c.args.self.table.now c.args.p) (entry c.args.self.table.now c.args.p)
allowed c = rw (phase_is (goal.at.After-marks_allowed c).In_ok-phase, c.wake.ensures.0, c.entry.ensures.0) at c.marks_allowed.ensures

pub returns-in_err-phase : goal.returns-in_err-phase
unfolding process_fits and
returns-in_err-phase c =
    let h = rw (← c.in_err-phase.ensures.value) at (phased (goal.at.returns-in_err-phase c).After-ok) in
    rw c.from_residual.ensures (simp (lt-leb (phase c.args.self.table.now c.args.p) 7 h))

pub returns-then-not-call_fits : goal.returns-then-not-call_fits
unfolding process_fits and
returns-then-not-call_fits c = simp (sym (placed (goal.at.returns-then-not-call_fits c).After-call_fits) ∙ c.if-not-call_fits.true, and_false)

pub returns-then-not-marks_allowed : goal.returns-then-not-marks_allowed
unfolding process_fits and
returns-then-not-marks_allowed c = simp (sym (allowed (goal.at.returns-then-not-marks_allowed c).After-marks_allowed) ∙ c.if-not-marks_allowed.true, and_false)

-- what the completed calls leave held
told : (c : After-ok-2) → MatchOption (result_ok c.follow.result) (completed_fine (routines c.args.self.file.bytes.now) c.args.p (call c.args.self.table.now c.args.p) ≡ false) (λ row. (completed_fine (routines c.args.self.file.bytes.now) c.args.p (call c.args.self.table.now c.args.p) ≡ true) × RowOf row (routines c.args.self.file.bytes.now) c.args.p (call c.args.self.table.now c.args.p))
told c =
    let S = routines c.args.self.file.bytes.now in
    let k = call c.args.self.table.now c.args.p in
    let l = low (goal.at.After-ok-2 c).Else-not-call_fits in
    kept (λ row. (completed_fine S c.args.p k ≡ true) × RowOf row S c.args.p k) (completed_fine S c.args.p k ≡ false) _ c.follow.result (λ e x. x) (followed c.args.self.file.bytes.now c.args.self.file.formed c.args.p c.requires.0 c.requires.1 k l.0 c.follow.result (rw (c.bytes.ensures, c.call-k.ensures.0) at c.follow.ensures))

held : (c : In_ok-row) → (completed_fine (routines c.args.self.file.bytes.now) c.args.p (call c.args.self.table.now c.args.p) ≡ true) × RowOf c.in_ok-row.row (routines c.args.self.file.bytes.now) c.args.p (call c.args.self.table.now c.args.p)
held c = rw (← c.in_ok-row.ensures.value) at (told (goal.at.In_ok-row c).After-ok-2)

pub returns-in_err-row : goal.returns-in_err-row
unfolding process_fits and
returns-in_err-row c =
    let f = rw (← c.in_err-row.ensures.value) at (told (goal.at.returns-in_err-row c).After-ok-2) in
    rw c.from_residual-in_err-row.ensures (simp (f, and_false))

-- the current call is call k of the routine
found : (c : After-try_from-2) → (call c.args.self.table.now c.args.p < (routines c.args.self.file.bytes.now).calls c.args.p) × (c.in-Some.call.kind ≡ kind_now (routines c.args.self.file.bytes.now) c.args.p (call c.args.self.table.now c.args.p)) × (c.in-Some.call.base ≡ base_now (routines c.args.self.file.bytes.now) c.args.p (call c.args.self.table.now c.args.p))
found c = call_now _ _ _ _ c.requires.0 c.requires.1 (rw c.call-k.ensures.0 at (sym c.in-Some.ensures))

kind : (c : After-try_from-2) → IsOkAnd c.try_from-2.result (λ kind. kind_number kind ≡ c.in-Some.call.kind)
kind c = let f = found c in kind_known _ c.args.self.file.formed _ _ _ c.requires.0 c.requires.1 f.0 f.1 _ c.try_from-2.ensures

pub unwrap-kind-requires : goal.unwrap-kind-requires
unwrap-kind-requires c = is_ok _ _ (kind (goal.at.unwrap-kind-requires c).After-try_from-2)

stood : (c : After-stands_well) → c.stands_well.result ≡ stands_well (phase c.args.self.table.now c.args.p) (kind_now (routines c.args.self.file.bytes.now) c.args.p (call c.args.self.table.now c.args.p)) (mark_now (routines c.args.self.file.bytes.now) c.args.p (call c.args.self.table.now c.args.p))
stood c =
    let t = (goal.at.After-stands_well c).After-try_from-2 in
    let h = found t in
    let k = rw c.unwrap-kind.ensures at (kind t) in
    let l = low (goal.at.After-stands_well c).Else-not-call_fits in
    let m = mark_seen _ c.args.self.file.formed c.args.p c.requires.0 c.requires.1 _ _ l.0 (held (goal.at.After-stands_well c).In_ok-row).1 in
    rw (k, c.mark_in.ensures, phase_is (goal.at.After-stands_well c).In_ok-phase, h.1, h.2, m) at c.stands_well.ensures

pub returns-then-not-stands_well : goal.returns-then-not-stands_well
unfolding process_fits and
returns-then-not-stands_well c = simp (sym (stood (goal.at.returns-then-not-stands_well c).After-stands_well) ∙ c.if-not-stands_well.true, and_false)

pub returns : goal.returns
unfolding process_fits and
returns c =
    let h = held (goal.at.returns c).In_ok-row in
    let f = found (goal.at.returns c).After-try_from-2 in
    let l = low (goal.at.returns c).Else-not-call_fits in
    let e = phase_is (goal.at.returns c).In_ok-phase in (
      simp (small (goal.at.returns c).In_ok-phase, sym (placed (goal.at.returns c).After-call_fits) ∙ c.if-not-call_fits.false, h.0, sym (stood (goal.at.returns c).After-stands_well) ∙ c.if-not-stands_well.false, sym (allowed (goal.at.returns c).After-marks_allowed) ∙ c.if-not-marks_allowed.false),
      rw (c.held_now.ensures, e, f.1, f.2) (λ q. held_seen _ c.args.self.file.formed _ c.requires.0 c.requires.1 _ _ l.0 h.1 (phase c.args.self.table.now c.args.p) l.1),
    )

-- where there is no call, CALL is n, so that the phase is 0
pub returns-in_default : goal.returns-in_default
unfolding process_fits stands_well effective and
returns-in_default c =
    let h = held (goal.at.returns-in_default c).In_ok-row in
    let l = low (goal.at.returns-in_default c).Else-not-call_fits in
    let n = no_call _ _ _ c.requires.0 c.requires.1 (c.args.self.file.formed.few_calls _ c.requires.0 c.requires.1) (rw c.call-k.ensures.0 at (sym c.in_default.ensures)) in
    let z : phase c.args.self.table.now c.args.p ≡ 0 = elim (ℕ_discrete (phase c.args.self.table.now c.args.p) 0) [ yes e ↦ e | no ne ↦ absurd (omega (arith, l.1 ne)) ] in (
      rw (sym (placed (goal.at.returns-in_default c).After-call_fits) ∙ c.if-not-call_fits.false, h.0, sym (allowed (goal.at.returns-in_default c).After-marks_allowed) ∙ c.if-not-marks_allowed.false, z) refl,
      rw z (λ q. h.1),
    )
