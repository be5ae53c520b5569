-- Every turn over a well-formed file, passing or not, keeps the table consistent; and the fresh table is consistent.
use mathlib.Core.Path.{◌≡◌, refl, sym, ap, ◌∙◌, subst}
use mathlib.Core.Logic.{◌≢◌, ◌⊎◌, inl, inr}
use mathlib.Core.Bool.{true}
use mathlib.Core.List.{List}
use Prim.Native.Nat.{ℕ, ◌+◌, ◌≤◌, ◌<◌}
use native.Mathlib.Omega.{arith}
use native.Mathlib.Decide.{ℕ_discrete}
use lib.ListN.{length}
use borrow.Author.Tests.{eqb-true, eq-eqb}
use Rattle.routine.specs.Sum.{sum}
use Rattle.routine.specs.Limits.{most_processes, most_bases, table_words}
use Rattle.routine.specs.Routines.{Routines, modifies, kind_now, base_now}
use Rattle.routine.specs.Rules.{WellFormed}
use Rattle.routine.proofs.Sums.{sum_one, sum_same, term_le}
use Rattle.routine.proofs.Holding.{at_call, call_now, kind_now_high}
use Rattle.rules.specs.declared.Words.{Words}
use Rattle.rules.specs.Table.{lock, nomore, count, call, phase, wake, entry, words_at}
use Rattle.rules.specs.Consistent.{held, owns, one_if_reads, readers, consistent}
use Rattle.rules.specs.Turn.{turned}
use Rattle.rules.proofs.Holding.{owns_modifies, one_reads, none_reads}
use Rattle.rules.proofs.Sentences.{ProcessConsistent, BaseConsistent, Consistent, consistent_means, means_consistent}
use Rattle.promise.specs.Play.{one_if_moves}
use Rattle.promise.proofs.Lines.{Line, finished, waiting, stopped, errs, takes_modlock, takes_readlock, misses, unlocks, decreases_last, decreases, enlists, retakes_modlock, retakes_readlock, remisses_modlock, remisses_readlock, delists, switches, wakes, notifies, Moves, Still, moves_or_rests, line_moves}
use Rattle.promise.proofs.Steps.{MarksLine, kept, woken, Step, turn_line, turn_step}
use Rattle.promise.proofs.Places.{moves_at_call, marks_woken, line_process}
use Rattle.promise.proofs.Holds.{HoldLine, keeps, gets_modify, gets_read, drops_modify, drops_read, HoldStep, line_holds}

-- ---- who modifies

pub owner_modifies : (S : Routines) (t : List ℕ) (b p : ℕ) → owns S t b p ≡ true → held S t p b ≡ modifies
owner_modifies S t b p e = eqb-true _ _ (sym (owns_modifies S t b p) ∙ e)

modifier_owns : (S : Routines) (t : List ℕ) (b p : ℕ) → held S t p b ≡ modifies → owns S t b p ≡ true
modifier_owns S t b p e = owns_modifies S t b p ∙ eq-eqb _ _ e

-- LOCK of b is p exactly if p modifies b
pub record LockModifies (S : Routines) (t : List ℕ) (b : ℕ) : Type 0 where
  pub low : lock t b ≤ S.N
  pub by : (q : ℕ) → 1 ≤ q → q ≤ S.N → lock t b ≡ q → held S t q b ≡ modifies
  pub of : (q : ℕ) → 1 ≤ q → q ≤ S.N → held S t q b ≡ modifies → lock t b ≡ q

pub lock_modifies : {S : Routines} {t : List ℕ} {b : ℕ} → BaseConsistent S t b → LockModifies S t b
lock_modifies {S} {t} {b} o = record {
  low = o.lock_low;
  by = λ q l h e. owner_modifies S t b q (o.lock_owner q l h e);
  of = λ q l h e. o.owner_lock q l h (modifier_owns S t b q e);
}

-- the switch is off, on, or as it was
line_nomore : {p kind old : ℕ} {w : Words} {d : ℕ} {v : Words} → Line p kind old w d v → w.nomore ≤ 1 → v.nomore ≤ 1
line_nomore (finished a r) n = omega arith
line_nomore (waiting a r) n = omega arith
line_nomore (stopped a r) n = omega arith
line_nomore (errs a b r) n = omega arith
line_nomore (takes_modlock a b c e r) n = omega arith
line_nomore (takes_readlock a b c e r) n = omega arith
line_nomore (misses a b c r) n = omega arith
line_nomore (unlocks a b r) n = omega arith
line_nomore (decreases_last a b c r) n = omega arith
line_nomore (decreases a b c r) n = omega arith
line_nomore (enlists r) n = omega arith
line_nomore (retakes_modlock a b c r) n = omega arith
line_nomore (retakes_readlock a b c r) n = omega arith
line_nomore (remisses_modlock a b r) n = omega arith
line_nomore (remisses_readlock a b r) n = omega arith
line_nomore (delists r) n = omega arith
line_nomore (switches r) n = omega arith
line_nomore (wakes a r) n = omega arith
line_nomore (notifies r) n = omega arith

-- ---- a step

module _ (S : Routines) (g : WellFormed S) (t u : List ℕ) (p b d : ℕ) (o : Consistent S t) (p_low : 1 ≤ p) (p_high : p ≤ S.N) (st : Step S p b t u d) where
  mine : ProcessConsistent S p (call t p) (phase t p) (wake t p) (entry t p)
  mine = o.process p p_low p_high

  -- what p holds, as the step changes it
  pub hold_step : HoldStep S p b t u
  hold_step = line_holds S p b t u st.at_base mine.stands d st.follows

  -- a process other than p holds what it held
  held_other : (q c : ℕ) → 1 ≤ q → q ≢ p → held S u q c ≡ held S t q c
  unfolding held
  held_other q c lo ne = rw (st.call_else q lo ne, st.phase_else q lo ne)

  -- a base other than b is held as it was
  held_elsewhere : (q c : ℕ) → 1 ≤ q → c ≢ b → held S u q c ≡ held S t q c
  held_elsewhere q c lo ne = elim (ℕ_discrete q p) [ yes e ↦ rw e (hold_step.else c ne) | no nq ↦ held_other q c lo nq ]

  process_kept : (q : ℕ) → 1 ≤ q → q ≤ S.N → ProcessConsistent S q (call u q) (phase u q) (wake u q) (entry u q)
  unfolding words_at
  process_kept q lo hi = elim (ℕ_discrete q p) [
    | yes e ↦ rw e (line_process S p (words_at t b p) (words_at u b p) (kind_now_high S g p (call t p) p_low p_high) mine st.follows)
    | no ne ↦ rw (st.call_else q lo ne, st.phase_else q lo ne) (other (o.process q lo hi) (st.marks_else q lo ne))
  ]
    where
      other : ProcessConsistent S q (call t q) (phase t q) (wake t q) (entry t q) → MarksLine S p b t u q → ProcessConsistent S q (call t q) (phase t q) (wake u q) (entry u q)
      other ok (kept n w e) = rw (w, e) ok
      other ok (woken a c e f w e2) = record {
        phase_low = ok.phase_low;
        call_low = ok.call_low;
        end_phase = ok.end_phase;
        completed_fine = ok.completed_fine;
        stands = ok.stands;
        marks = marks_woken ok.marks e w e2;
      }

  module _ (b_low : 1 ≤ b) (b_high : b ≤ S.B) where
    was : BaseConsistent S t b
    was = o.base b b_low b_high

    lm : LockModifies S t b
    lm = lock_modifies was

    keep_all : held S u p b ≡ held S t p b → (q : ℕ) → 1 ≤ q → held S u q b ≡ held S t q b
    keep_all h q lo = elim (ℕ_discrete q p) [ yes e ↦ rw e h | no ne ↦ held_other q b lo ne ]

    lock_low_here : HoldLine S p b t u → lock u b ≤ S.N
    lock_low_here (keeps h l c) = omega (arith, lm.low)
    lock_low_here (gets_modify h h2 l c l2 c2) = omega arith
    lock_low_here (gets_read h h2 l n l2 c) = omega arith
    lock_low_here (drops_modify h h2 l c) = omega arith
    lock_low_here (drops_read h h2 l c) = omega (arith, lm.low)

    lock_by_here : HoldLine S p b t u → (q : ℕ) → 1 ≤ q → q ≤ S.N → lock u b ≡ q → held S u q b ≡ modifies
    lock_by_here (keeps h l c) q lo hi e = keep_all h q lo ∙ lm.by q lo hi (sym l ∙ e)
    lock_by_here (gets_modify h h2 l c l2 c2) q lo hi e = subst (λ z. held S u z b ≡ modifies) (sym l2 ∙ e) h2
    lock_by_here (gets_read h h2 l n l2 c) q lo hi e = absurd (omega arith)
    lock_by_here (drops_modify h h2 l c) q lo hi e = absurd (omega arith)
    lock_by_here (drops_read h h2 l c) q lo hi e =
        let y = lm.by q lo hi (sym l ∙ e) in
        held_other q b lo (λ z. absurd (omega (arith, ap (λ r. held S t r b) z, y, h))) ∙ y

    lock_of_here : HoldLine S p b t u → (q : ℕ) → 1 ≤ q → q ≤ S.N → held S u q b ≡ modifies → lock u b ≡ q
    lock_of_here hl q lo hi x = elim (ℕ_discrete q p) [ yes e ↦ rw e (own hl (rw e at x)) | no ne ↦ other ne hl (lm.of q lo hi (sym (held_other q b lo ne) ∙ x)) ]
      where
        own : HoldLine S p b t u → held S u p b ≡ modifies → lock u b ≡ p
        own (keeps h l c) y = l ∙ lm.of p p_low p_high (sym h ∙ y)
        own (gets_modify h h2 l c l2 c2) y = l2
        own (gets_read h h2 l n l2 c) y = absurd (omega arith)
        own (drops_modify h h2 l c) y = absurd (omega arith)
        own (drops_read h h2 l c) y = absurd (omega arith)

        other : q ≢ p → HoldLine S p b t u → lock t b ≡ q → lock u b ≡ q
        other ne (keeps h l c) y = l ∙ y
        other ne (gets_modify h h2 l c l2 c2) y = absurd (omega arith)
        other ne (gets_read h h2 l n l2 c) y = absurd (omega arith)
        other ne (drops_modify h h2 l c) y = absurd (ne (sym y ∙ lm.of p p_low p_high h))
        other ne (drops_read h h2 l c) y = l ∙ y

    readers_here : HoldLine S p b t u → count u b ≡ readers S u b
    unfolding readers
    readers_here hl =
        go hl
        (sum_one S.N (λ q. one_if_reads (held S t q b)) (λ q. one_if_reads (held S u q b)) p p_low p_high (λ q lo hi ne. ap one_if_reads (held_other q b lo ne)))
        (term_le S.N (λ q. one_if_reads (held S t q b)) p p_low p_high)
        was.count_readers
      where
        go : HoldLine S p b t u
            → sum S.N (λ q. one_if_reads (held S u q b)) + one_if_reads (held S t p b) ≡ sum S.N (λ q. one_if_reads (held S t q b)) + one_if_reads (held S u p b)
            → one_if_reads (held S t p b) ≤ sum S.N (λ q. one_if_reads (held S t q b))
            → count t b ≡ sum S.N (λ q. one_if_reads (held S t q b))
            → count u b ≡ sum S.N (λ q. one_if_reads (held S u q b))
        go (keeps h l c) s v k = omega (arith, ap one_if_reads h)
        go (gets_modify h h2 l c l2 c2) s v k = omega (arith, none_reads (held S t p b) (omega arith), none_reads (held S u p b) (omega arith))
        go (gets_read h h2 l n l2 c) s v k = omega (arith, none_reads (held S t p b) (omega arith), one_reads (held S u p b) h2)
        go (drops_modify h h2 l c) s v k = omega (arith, none_reads (held S t p b) (omega arith), none_reads (held S u p b) (omega arith))
        go (drops_read h h2 l c) s v k = omega (arith, one_reads (held S t p b) h, none_reads (held S u p b) (omega arith))

    not_both_here : HoldLine S p b t u → lock u b ≢ 0 → count u b ≡ 0
    not_both_here (keeps h l c) x = c ∙ was.not_both (λ z. x (l ∙ z))
    not_both_here (gets_modify h h2 l c l2 c2) x = c2 ∙ c
    not_both_here (gets_read h h2 l n l2 c) x = absurd (x l2)
    not_both_here (drops_modify h h2 l c) x = absurd (x l)
    not_both_here (drops_read h h2 l c) x = omega (arith, was.not_both (λ z. x (l ∙ z)))

    base_here : BaseConsistent S u b
    unfolding words_at
    base_here = record {
      nomore_low = line_nomore st.follows was.nomore_low;
      lock_low = lock_low_here hold_step.here;
      lock_owner = λ q lo hi e. modifier_owns S u b q (lock_by_here hold_step.here q lo hi e);
      owner_lock = λ q lo hi e. lock_of_here hold_step.here q lo hi (owner_modifies S u b q e);
      count_readers = readers_here hold_step.here;
      not_both = not_both_here hold_step.here;
    }

  -- at a base other than b all is as it was
  base_elsewhere : (c : ℕ) → 1 ≤ c → c ≤ S.B → c ≢ b → BaseConsistent S u c
  unfolding readers
  base_elsewhere c lo hi ne =
      let far : c ≤ most_bases = omega (arith, g.few_bases) in
      let was = o.base c lo hi in
      let m = lock_modifies was in
      let l = st.lock_else c lo far ne in
      record {
        nomore_low = omega (arith, st.nomore_else c lo far ne, was.nomore_low);
        lock_low = omega (arith, m.low);
        lock_owner = λ q ql qh e. modifier_owns S u c q (held_elsewhere q c ql ne ∙ m.by q ql qh (sym l ∙ e));
        owner_lock = λ q ql qh e. l ∙ m.of q ql qh (sym (held_elsewhere q c ql ne) ∙ owner_modifies S u c q e);
        count_readers = st.count_else c lo far ne ∙ was.count_readers ∙ sym (sum_same S.N _ _ (λ q ql qh. ap one_if_reads (held_elsewhere q c ql ne)));
        not_both = λ x. st.count_else c lo far ne ∙ was.not_both (λ z. x (l ∙ z));
      }

  base_kept : (c : ℕ) → 1 ≤ c → c ≤ S.B → BaseConsistent S u c
  base_kept c lo hi = elim (ℕ_discrete c b) [
    | yes e ↦ rw e (base_here (rw e at lo) (rw e at hi))
    | no ne ↦ base_elsewhere c lo hi ne
  ]

  -- a base above B is never the base of a call, so nothing is done there
  base_above_kept : (c : ℕ) → S.B < c → c ≤ most_bases → (lock u c ≡ 0) × (nomore u c ≡ 0) × (count u c ≡ 0)
  unfolding words_at
  base_above_kept c lo hi = elim (ℕ_discrete c b) [
    | no ne ↦ rw (st.lock_else c (omega arith) hi ne, st.nomore_else c (omega arith) hi ne, st.count_else c (omega arith) hi ne) (o.base_above c lo hi)
    | yes e ↦ go e (moves_or_rests st.follows)
  ]
    where
      go : c ≡ b → Moves (kind_now S p (call t p)) (words_at t b p) d ⊎ Still (kind_now S p (call t p)) (words_at t b p) d (words_at u b p) → (lock u c ≡ 0) × (nomore u c ≡ 0) × (count u c ≡ 0)
      go e (inl m) =
          let lt = at_call S p (call t p) (moves_at_call mine.phase_low mine.stands m) in
          absurd (omega (arith, e, st.at_base, lo, (call_now S g p (call t p) p_low p_high lt).base_high))
      go e (inr s) = rw (e, ap (λ w. w.lock) s.same, ap (λ w. w.nomore) s.same, ap (λ w. w.count) s.same) (rw e at (o.base_above c lo hi))

  process_above_kept : (q : ℕ) → S.N < q → q ≤ most_processes → (call u q ≡ 0) × (phase u q ≡ 0) × (wake u q ≡ 0) × (entry u q ≡ 0)
  process_above_kept q lo hi = go (st.marks_else q (omega arith) (omega arith))
    where
      go : MarksLine S p b t u q → (call u q ≡ 0) × (phase u q ≡ 0) × (wake u q ≡ 0) × (entry u q ≡ 0)
      go (kept n w e) = rw (st.call_else q (omega arith) (omega arith), st.phase_else q (omega arith) (omega arith), w, e) (o.process_above q lo hi)
      go (woken a c f h w e) = absurd (omega arith)

  -- so the step keeps every sentence: at p and at b by its line, elsewhere as before
  pub step_consistent : Consistent S u
  step_consistent = record { process = process_kept; base = base_kept; process_above = process_above_kept; base_above = base_above_kept }

-- ---- a turn

module _ (S : Routines) (g : WellFormed S) (t : List ℕ) (len : length t ≡ table_words) (o : Consistent S t) (p : ℕ) (p_low : 1 ≤ p) (p_high : p ≤ S.N) where
  -- a turn that moves stands at a call
  pub turn_at_call : one_if_moves S t p ≡ 1 → call t p < S.calls p
  unfolding words_at
  turn_at_call m = at_call S p (call t p) (moves_at_call {w = words_at t (base_now S p (call t p)) p} (o.process p p_low p_high).phase_low (o.process p p_low p_high).stands (line_moves (turn_line S g p t len p_low p_high) m))

  -- the frame of a turn: where it moves, its base lies in the table, since it stands at a call
  pub turn_frame : Step S p (base_now S p (call t p)) t (turned S t p) (one_if_moves S t p)
  unfolding one_if_moves
  turn_frame = turn_step S g p t len p_low p_high (λ m.
      let c = call_now S g p (call t p) p_low p_high (turn_at_call (rw m refl)) in
      (c.base_low, omega (arith, c.base_high, g.few_bases)))

  -- the table keeps its 80 words
  pub turn_size : length (turned S t p) ≡ table_words
  turn_size = turn_frame.size ∙ len

  pub turn_sentences : Consistent S (turned S t p)
  turn_sentences = step_consistent S g t (turned S t p) p (base_now S p (call t p)) (one_if_moves S t p) o p_low p_high turn_frame

-- a turn leaves a consistent table consistent: its line leaves p standing well, and changes what p holds together with the words that record it
pub turn_keeps_consistent : (S : Routines) → WellFormed S → (t : List ℕ) → length t ≡ table_words → consistent S t ≡ true → (p : ℕ) → 1 ≤ p → p ≤ S.N → consistent S (turned S t p) ≡ true
turn_keeps_consistent S g t len c p lo hi = means_consistent S (turned S t p) (turn_sentences S g t len (consistent_means S t g c) p lo hi)
