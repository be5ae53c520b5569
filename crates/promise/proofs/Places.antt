-- Where a process stands, and that its own turn leaves it standing well.
use mathlib.Core.Path.{◌≡◌, sym, ap₂, ◌∙◌}
use mathlib.Core.Logic.{◌≢◌}
use mathlib.Core.Bool.{true, false}
use Prim.Native.Nat.{ℕ, ◌+◌, ◌≤◌, ◌<◌}
use native.Mathlib.Omega.{arith}
use native.Mathlib.Decide.{ℕ_discrete, dec_le}
use borrow.Author.Tests.{eqb-true, eq-eqb}
use Rattle.routine.specs.Routines.{Routines, modlock, readlock, unlock, decrease, free, modifies, reads, fine, hold, kind_now}
use Rattle.routine.proofs.Holding.{kind_now_lem, at_call, fine_take, fine_unlock, fine_decrease}
use Rattle.rules.specs.declared.Words.{Words}
use Rattle.rules.specs.Consistent.{mark_now}
use Rattle.rules.proofs.Holding.{mark_now_lem}
use Rattle.rules.proofs.Sentences.{Stands, Marks, ProcessConsistent}
use Rattle.promise.proofs.Lines.{Line, Leaves, finished, waiting, stopped, errs, takes_modlock, takes_readlock, misses, unlocks, decreases_last, decreases, enlists, retakes_modlock, retakes_readlock, remisses_modlock, remisses_readlock, delists, switches, wakes, notifies, Moves, from_start, from_within}

-- ---- no logic error, kind by kind

take_fine : (kind old : ℕ) → kind ≤ readlock → old ≡ free → fine kind old ≡ true
take_fine kind old h e = fine_take kind old h ∙ eq-eqb _ _ e

unlock_fine : (kind old : ℕ) → kind ≡ unlock → old ≡ modifies → fine kind old ≡ true
unlock_fine kind old h e = fine_unlock kind old h ∙ eq-eqb _ _ e

decrease_fine : (kind old : ℕ) → kind ≡ decrease → old ≡ reads → fine kind old ≡ true
decrease_fine kind old h e = fine_decrease kind old h ∙ eq-eqb _ _ e

-- ---- the stands

-- a take that is no logic error
pub record AtTake (kind old : ℕ) : Type 0 where
  pub low : modlock ≤ kind
  pub high : kind ≤ readlock
  pub freed : old ≡ free

pub at_take : {kind old ph : ℕ} → Stands kind old ph → 1 ≤ ph → ph ≤ 5 → AtTake kind old
at_take {kind} {old} s l h =
    let k = s.take_high l h in
    record { low = s.take_low l h; high = k; freed = eqb-true _ _ (sym (fine_take kind old k) ∙ s.no_error l (omega arith)) }

-- a process that stands at no call stands in phase 0
no_call_start : {kind old ph : ℕ} → ph ≤ 7 → Stands kind old ph → kind ≡ 0 → ph ≡ 0
no_call_start {kind} {old} {ph} h s z = elim (dec_le ph 0) [
  | yes a ↦ omega arith
  | no a ↦ elim (dec_le ph 5) [
    | yes b ↦ absurd (omega (arith, s.take_low (omega arith) b))
    | no b ↦ elim (ℕ_discrete ph 6) [
      | yes c ↦ absurd (omega (arith, s.release_low c))
      | no c ↦ absurd (omega (arith, s.stopped_low (omega arith)))
    ]
  ]
]

-- so a line that moves stands at a call
pub moves_at_call : {kind old d : ℕ} {w : Words} → w.phase ≤ 7 → Stands kind old w.phase → Moves kind w d → kind ≢ 0
moves_at_call h s (from_start a b c) z = b z
moves_at_call h s (from_within a b c e) z = (let y = no_call_start h s z in omega arith)

pub stands_start : {kind old ph : ℕ} → ph ≡ 0 → Stands kind old ph
stands_start e = record {
  take_low = λ l h. omega arith;
  take_high = λ l h. omega arith;
  switch_at = λ f. omega arith;
  release_low = λ f. omega arith;
  release_high = λ f. omega arith;
  no_error = λ l h. absurd (omega arith);
  stopped_low = λ f. omega arith;
  stopped_high = λ f. omega arith;
  stopped_error = λ f. absurd (omega arith);
}

stands_take : {kind old ph : ℕ} → 1 ≤ ph → ph ≤ 5 → AtTake kind old → (ph ≡ 4 → kind ≡ modlock) → Stands kind old ph
stands_take {kind} {old} l h a m = record {
  take_low = λ u v. omega arith;
  take_high = λ u v. omega arith;
  switch_at = m;
  release_low = λ f. omega arith;
  release_high = λ f. omega arith;
  no_error = λ u v. take_fine kind old a.high a.freed;
  stopped_low = λ f. omega arith;
  stopped_high = λ f. omega arith;
  stopped_error = λ f. absurd (omega arith);
}

stands_release : {kind old ph : ℕ} → ph ≡ 6 → unlock ≤ kind → kind ≤ decrease → fine kind old ≡ true → Stands kind old ph
stands_release e l h f = record {
  take_low = λ u v. omega arith;
  take_high = λ u v. omega arith;
  switch_at = λ u. omega arith;
  release_low = λ u. l;
  release_high = λ u. h;
  no_error = λ u v. f;
  stopped_low = λ u. omega arith;
  stopped_high = λ u. omega arith;
  stopped_error = λ u. absurd (omega arith);
}

stands_stopped : {kind old ph : ℕ} → ph ≡ 7 → modlock ≤ kind → kind ≤ decrease → fine kind old ≡ false → Stands kind old ph
stands_stopped e l h f = record {
  take_low = λ u v. omega arith;
  take_high = λ u v. omega arith;
  switch_at = λ u. omega arith;
  release_low = λ u. omega arith;
  release_high = λ u. omega arith;
  no_error = λ u v. absurd (omega arith);
  stopped_low = λ u. l;
  stopped_high = λ u. h;
  stopped_error = λ u. f;
}

-- ---- what a notify does to the marks, the phase allows
pub marks_woken : {ph w e w' e' : ℕ} → Marks ph w e → e ≡ 1 → w' ≡ 1 → e' ≡ 0 → Marks ph w' e'
marks_woken {ph} m x y z = record {
  one = λ l h. omega arith;
  none_before = λ h. absurd (omega (arith, m.none_before h));
  none_after = λ h. absurd (omega (arith, m.none_after h));
}

-- ---- a turn of p leaves p consistent

module _ (S : Routines) (p : ℕ) (w v : Words) (kind_high : kind_now S p w.call ≤ decrease) (ok : ProcessConsistent S p w.call w.phase w.wake w.entry) where
  same_call : v.call ≡ w.call → kind_now S p w.call ≢ 0 → v.phase ≤ 7 → Stands (kind_now S p w.call) (mark_now S p w.call) v.phase → Marks v.phase v.wake v.entry → ProcessConsistent S p v.call v.phase v.wake v.entry
  same_call e n h s m = rw e (record {
    phase_low = h;
    call_low = ok.call_low;
    end_phase = λ f. absurd (omega (arith, at_call S p w.call n));
    completed_fine = ok.completed_fine;
    stands = s;
    marks = m;
  })

  next_call : v.call ≡ w.call + 1 → kind_now S p w.call ≢ 0 → fine (kind_now S p w.call) (mark_now S p w.call) ≡ true → v.phase ≡ 0 → v.wake ≡ 0 → v.entry ≡ 0 → ProcessConsistent S p v.call v.phase v.wake v.entry
  next_call e n f a b c = rw e (record {
    phase_low = omega arith;
    call_low = omega (arith, lt);
    end_phase = λ z. a;
    completed_fine = past;
    stands = stands_start a;
    marks = omega arith;
  })
    where
      lt : w.call < S.calls p
      lt = at_call S p w.call n

      past : (j : ℕ) → j < w.call + 1 → fine (S.kind p j) (hold S p j (S.base p j)) ≡ true
      past j h = elim (ℕ_discrete j w.call) [
        | yes z ↦ rw z (ap₂ fine (sym (kind_now_lem S p w.call lt)) (sym (mark_now_lem S p w.call lt)) ∙ f)
        | no z ↦ ok.completed_fine j (omega arith)
      ]

  rests : {ph d : ℕ} → Leaves w d v ph 0 w.lock w.nomore w.count w.call w.phase w.wake w.entry → ProcessConsistent S p v.call v.phase v.wake v.entry
  rests r = rw (r.call_is, r.phase_is, r.wake_is, r.entry_is) ok

  -- phases 2 to 5 go on to another of them
  goes_on : {ph d l n c wk en : ℕ} {ph' : ℕ} → Leaves w d v ph 1 l n c w.call ph' wk en → 1 ≤ ph → ph ≤ 5 → 2 ≤ ph' → ph' ≤ 5 → (ph' ≡ 4 → kind_now S p w.call ≡ modlock) → wk + en ≡ 1 → ProcessConsistent S p v.call v.phase v.wake v.entry
  goes_on r a b c e f m =
      let t = at_take ok.stands (omega arith) (omega arith) in
      same_call r.call_is (omega arith) (omega arith) (stands_take (omega arith) (omega arith) t (λ z. f (omega arith))) (omega arith)

  pub line_process : {d : ℕ} → Line p (kind_now S p w.call) (mark_now S p w.call) w d v → ProcessConsistent S p v.call v.phase v.wake v.entry
  line_process (finished a r) = rests r
  line_process (waiting a r) = rests r
  line_process (stopped a r) = rests r
  line_process (errs a b r) = let m = ok.marks.none_before (omega arith) in same_call r.call_is a (omega arith) (stands_stopped r.phase_is (omega arith) kind_high b) (omega arith)
  line_process (takes_modlock a b c e r) = let m = ok.marks.none_before (omega arith) in next_call r.call_is (omega arith) (take_fine _ _ (omega arith) b) r.phase_is (omega arith) (omega arith)
  line_process (takes_readlock a b c e r) = let m = ok.marks.none_before (omega arith) in next_call r.call_is (omega arith) (take_fine _ _ (omega arith) b) r.phase_is (omega arith) (omega arith)
  line_process (misses a b c r) = let m = ok.marks.none_before (omega arith) in same_call r.call_is (omega arith) (omega arith) (stands_take (omega arith) (omega arith) (record { low = a; high = b; freed = c }) (λ f. absurd (omega arith))) (omega arith)
  line_process (unlocks a b r) = let m = ok.marks.none_before (omega arith) in same_call r.call_is (omega arith) (omega arith) (stands_release r.phase_is (omega arith) kind_high (unlock_fine _ _ a b)) (omega arith)
  line_process (decreases_last a b c r) = let m = ok.marks.none_before (omega arith) in same_call r.call_is (omega arith) (omega arith) (stands_release r.phase_is (omega arith) kind_high (decrease_fine _ _ a b)) (omega arith)
  line_process (decreases a b c r) = let m = ok.marks.none_before (omega arith) in next_call r.call_is (omega arith) (decrease_fine _ _ a b) r.phase_is (omega arith) (omega arith)
  line_process (enlists r) = let m = ok.marks.none_before (omega arith) in goes_on r (omega arith) (omega arith) (omega arith) (omega arith) (λ f. absurd (omega arith)) (omega arith)
  line_process (retakes_modlock a b c r) = let m = ok.marks.one (omega arith) (omega arith) in goes_on r (omega arith) (omega arith) (omega arith) (omega arith) (λ f. a) m
  line_process (retakes_readlock a b c r) = let m = ok.marks.one (omega arith) (omega arith) in goes_on r (omega arith) (omega arith) (omega arith) (omega arith) (λ f. absurd (omega arith)) m
  line_process (remisses_modlock a b r) = let m = ok.marks.one (omega arith) (omega arith) in goes_on r (omega arith) (omega arith) (omega arith) (omega arith) (λ f. a) m
  line_process (remisses_readlock a b r) = let m = ok.marks.one (omega arith) (omega arith) in goes_on r (omega arith) (omega arith) (omega arith) (omega arith) (λ f. absurd (omega arith)) m
  line_process (delists r) = let t = at_take ok.stands (omega arith) (omega arith) in next_call r.call_is (omega arith) (take_fine _ _ t.high t.freed) r.phase_is r.wake_is r.entry_is
  line_process (switches r) = let m = ok.marks.one (omega arith) (omega arith) in goes_on r (omega arith) (omega arith) (omega arith) (omega arith) (λ f. absurd (omega arith)) m
  line_process (wakes a r) = let m = ok.marks.one (omega arith) (omega arith) in let t = at_take ok.stands (omega arith) (omega arith) in same_call r.call_is (omega arith) (omega arith) (stands_start r.phase_is) (omega arith)
  line_process (notifies r) = let m = ok.marks.none_after (omega arith) in let l = ok.stands.release_low r.at in next_call r.call_is (omega arith) (ok.stands.no_error (omega arith) (omega arith)) r.phase_is (omega arith) (omega arith)
