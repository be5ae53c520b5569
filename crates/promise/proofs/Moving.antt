-- Who would move: MOVED is said exactly of the turns that change the table, a process's own words decide it, and no other process's turn takes it away.
use mathlib.Core.Path.{◌≡◌, refl, sym, ap, ◌∙◌}
use mathlib.Core.Logic.{◌≢◌}
use mathlib.Core.Bool.{true, false}
use mathlib.Core.List.{List, [], ◌∷◌}
use Prim.Native.Nat.{ℕ, ◌≤◌}
use native.Mathlib.Omega.{arith}
use lib.ListN.{length}
use Rattle.std.specs.Prelude.{Option, Some, None, is_some}
use Rattle.routine.specs.Test.{by_test, clash}
use Rattle.routine.specs.Limits.{table_words}
use Rattle.routine.specs.Routines.{Routines, kind_now, base_now}
use Rattle.routine.specs.Rules.{WellFormed}
use Rattle.routine.proofs.Holding.{no_call}
use Rattle.rules.specs.Table.{call, phase, wake, words_at}
use Rattle.rules.specs.declared.Words.{Words}
use Rattle.rules.specs.Turn.{next_at, settle, turned, moves}
use Rattle.rules.proofs.Sentences.{Consistent}
use Rattle.rules.proofs.Bounds.{wake_small}
use Rattle.promise.specs.Play.{play, one_if_moves}
use Rattle.promise.proofs.Lines.{Rest, rest_finished, rest_waiting, rest_stopped, Moves, from_start, from_within, line_moves, line_rests, line_changes}
use Rattle.promise.proofs.Steps.{MarksLine, kept, woken, Step, turn_line}
use Rattle.promise.proofs.ConsistencyKept.{turn_at_call, turn_frame, turn_size, turn_sentences}

one_moves : (S : Routines) (t : List ℕ) (p : ℕ) → moves S t p ≡ true → one_if_moves S t p ≡ 1
unfolding one_if_moves
one_moves S t p e = rw e

none_moves : (S : Routines) (t : List ℕ) (p : ℕ) → moves S t p ≡ false → one_if_moves S t p ≡ 0
unfolding one_if_moves
none_moves S t p e = rw e

-- a turn that says IDLE leaves the table itself
pub idle_same : (S : Routines) (t : List ℕ) (p : ℕ) → moves S t p ≡ false → turned S t p ≡ t
unfolding turned moves
idle_same S t p e = go (next_at S t p) e
  where
    go : (y : Option Words) → is_some y ≡ false → settle S t p y ≡ t
    go (Some w) e = absurd (clash refl e)
    go None e = unfold settle in refl

-- why a process would answer IDLE
pub data IdleBecause (S : Routines) (t : List ℕ) (p : ℕ) : Type 0 where
  is_finished : call t p ≡ S.calls p → IdleBecause S t p
  is_stopped : phase t p ≡ 7 → IdleBecause S t p
  is_waiting : phase t p ≡ 5 → wake t p ≡ 0 → IdleBecause S t p

module _ (S : Routines) (g : WellFormed S) (t : List ℕ) (len : length t ≡ table_words) (o : Consistent S t) (p : ℕ) (p_low : 1 ≤ p) (p_high : p ≤ S.N) where
  -- a turn that says MOVED changes the table: CALL or PHASE is another
  pub moved_changes : moves S t p ≡ true → turned S t p ≢ t
  unfolding words_at
  moved_changes m e = line_changes (turn_frame S g t len o p p_low p_high).follows (one_moves S t p m) (ap (λ u. call u p) e) (ap (λ u. phase u p) e)

  -- who is idle is finished, stopped, or waits with WAKE 0: these are the lines that rest, and no call means finished
  pub idle_because : moves S t p ≡ false → IdleBecause S t p
  unfolding words_at
  idle_because e = go (line_rests (turn_line S g p t len p_low p_high) (omega (arith, none_moves S t p e))).why
    where
      go : Rest (kind_now S p (call t p)) (words_at t (base_now S p (call t p)) p) → IdleBecause S t p
      go (rest_finished a k) = is_finished (omega (arith, (o.process p p_low p_high).call_low, no_call S g p (call t p) p_low p_high k))
      go (rest_waiting a w) = is_waiting a (omega (arith, wake_small S g t o p p_low p_high))
      go (rest_stopped a) = is_stopped (omega (arith, (o.process p p_low p_high).phase_low))

  -- and each of them is idle: a line that moves stands at a call, in phases 0 to 6, and leaves phase 5 by its WAKE
  pub because_idle : IdleBecause S t p → moves S t p ≡ false
  unfolding words_at
  because_idle r = by_test (moves S t p) (λ m. absurd (go r (one_moves S t p m))) (λ m. m)
    where
      how : one_if_moves S t p ≡ 1 → Moves (kind_now S p (call t p)) (words_at t (base_now S p (call t p)) p) (one_if_moves S t p)
      how m = line_moves (turn_line S g p t len p_low p_high) m

      five : Moves (kind_now S p (call t p)) (words_at t (base_now S p (call t p)) p) (one_if_moves S t p) → phase t p ≡ 5 → wake t p ≡ 1
      five (from_start a b c) e = absurd (omega arith)
      five (from_within a b c d) e = c e

      seven : Moves (kind_now S p (call t p)) (words_at t (base_now S p (call t p)) p) (one_if_moves S t p) → phase t p ≢ 7
      seven (from_start a b c) = omega arith
      seven (from_within a b c d) = omega arith

      go : IdleBecause S t p → one_if_moves S t p ≡ 1 → ⊥
      go (is_finished e) m = omega (arith, turn_at_call S g t len o p p_low p_high m)
      go (is_stopped e) m = seven (how m) e
      go (is_waiting e w) m = omega (arith, five (how m) e)

-- who can move still can after another process's turn: only its own turn, or a notify that wakes it, touches its words
pub stays_able : (S : Routines) (g : WellFormed S) (t : List ℕ) → length t ≡ table_words → Consistent S t → (p q : ℕ) → 1 ≤ p → p ≤ S.N → 1 ≤ q → q ≤ S.N → q ≢ p → moves S t q ≡ true → moves S (turned S t p) q ≡ true
stays_able S g t len o p q pl ph ql qh ne m =
    by_test (moves S (turned S t p) q) (λ e. e)
    (λ e. absurd (clash m (because_idle S g t len o q ql qh (before (idle_because S g (turned S t p) (turn_size S g t len o p pl ph) (turn_sentences S g t len o p pl ph) q ql qh e)))))
  where
    st : Step S p (base_now S p (call t p)) t (turned S t p) (one_if_moves S t p)
    st = turn_frame S g t len o p pl ph

    asleep : MarksLine S p (base_now S p (call t p)) t (turned S t p) q → wake (turned S t p) q ≡ 0 → wake t q ≡ 0
    asleep (kept n w e) z = omega arith
    asleep (woken a b c d w e) z = absurd (omega arith)

    before : IdleBecause S (turned S t p) q → IdleBecause S t q
    before (is_finished e) = is_finished (sym (st.call_else q ql ne) ∙ e)
    before (is_stopped e) = is_stopped (sym (st.phase_else q ql ne) ∙ e)
    before (is_waiting e w) = is_waiting (sym (st.phase_else q ql ne) ∙ e) (asleep (st.marks_else q ql ne) w)

-- turns by processes 1 to n other than q
pub data TurnsWithout (n q : ℕ) : List ℕ → Type 0 where
  none_yet : TurnsWithout n q []
  another : {p : ℕ} {ps : List ℕ} → 1 ≤ p → p ≤ n → q ≢ p → TurnsWithout n q ps → TurnsWithout n q (p ∷ ps)

-- who can move stays able to move until its own turn
pub stays_able_long : (S : Routines) (g : WellFormed S) (t : List ℕ) → length t ≡ table_words → Consistent S t → (q : ℕ) → 1 ≤ q → q ≤ S.N → (ps : List ℕ) → TurnsWithout S.N q ps → moves S t q ≡ true → moves S (play S t ps) q ≡ true
unfolding play
stays_able_long S g t len o q ql qh [] ts m = m
stays_able_long S g t len o q ql qh (p ∷ ps) (another pl ph ne ts) m =
    stays_able_long S g (turned S t p) (turn_size S g t len o p pl ph) (turn_sentences S g t len o p pl ph) q ql qh ps ts (stays_able S g t len o p q pl ph ql qh ne m)
