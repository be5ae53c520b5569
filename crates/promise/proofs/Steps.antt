-- A turn as a relation between two tables, read through the accessors alone. All that is said of turns above rests on this.
use mathlib.Core.Path.{◌≡◌, refl, sym, ap, ◌∙◌, subst}
use mathlib.Core.Logic.{◌≢◌}
use mathlib.Core.Bool.{true, cond}
use mathlib.Core.List.{List}
use Prim.Native.Nat.{ℕ, zero, suc, ◌≤◌, ◌<◌}
use native.Mathlib.Omega.{arith}
use native.Mathlib.Decide.{ℕ_discrete, dec_le}
use lib.ListN.{length}
use lib.Dec.{eqb}
use borrow.Author.Tests.{eqb-true, eqb-false, eq-eqb}
use Rattle.std.specs.Prelude.{Option, Some, None, is_some, unwrap_or}
use Rattle.routine.specs.Test.{by_test, clash, both, and_left, and_right}
use Rattle.routine.specs.Limits.{most_processes, most_bases, table_words}
use Rattle.routine.specs.Routines.{Routines, decrease, kind_now, base_now}
use Rattle.routine.specs.Rules.{WellFormed}
use Rattle.routine.proofs.Holding.{kind_now_high}
use Rattle.rules.specs.declared.Words.{Words}
use Rattle.rules.specs.Table.{lock, nomore, count, call, phase, wake, entry, words_at, put_base, put_marks, put_process, put_words, BasePut, base_put, marks_put, ProcessPut, process_put}
use Rattle.rules.specs.Consistent.{mark_now}
use Rattle.rules.specs.Turn.{waits, notified, next_at, settle, turned, moves}
use Rattle.promise.specs.Play.{one_if_moves}
use Rattle.promise.proofs.Lines.{did_of, Line, line, Rest, rest_finished, rest_waiting, rest_stopped, line_rests}

-- what a turn of p at base b does to the marks of another process q
pub data MarksLine (S : Routines) (p b : ℕ) (t u : List ℕ) (q : ℕ) : Type 0 where
  kept : (phase t p ≡ 6 → q ≤ S.N → entry t q ≡ 1 → base_now S q (call t q) ≡ b → ⊥) → wake u q ≡ wake t q → entry u q ≡ entry t q → MarksLine S p b t u q
  woken : phase t p ≡ 6 → q ≤ S.N → entry t q ≡ 1 → base_now S q (call t q) ≡ b → wake u q ≡ 1 → entry u q ≡ 0 → MarksLine S p b t u q

-- the frame of a turn of p, which makes u of t: only the words of its base, its own, and in phase 6 the marks of who is enlisted for its base, change
pub record Step (S : Routines) (p b : ℕ) (t u : List ℕ) (d : ℕ) : Type 0 where
  pub at_base : b ≡ base_now S p (call t p)
  pub size : length u ≡ length t
  pub follows : Line p (kind_now S p (call t p)) (mark_now S p (call t p)) (words_at t b p) d (words_at u b p)
  pub lock_else : (c : ℕ) → 1 ≤ c → c ≤ most_bases → c ≢ b → lock u c ≡ lock t c
  pub nomore_else : (c : ℕ) → 1 ≤ c → c ≤ most_bases → c ≢ b → nomore u c ≡ nomore t c
  pub count_else : (c : ℕ) → 1 ≤ c → c ≤ most_bases → c ≢ b → count u c ≡ count t c
  pub call_else : (q : ℕ) → 1 ≤ q → q ≢ p → call u q ≡ call t q
  pub phase_else : (q : ℕ) → 1 ≤ q → q ≢ p → phase u q ≡ phase t q
  pub marks_else : (q : ℕ) → 1 ≤ q → q ≢ p → MarksLine S p b t u q

-- ---- the notifying loop

-- tables that differ in marks alone
pub record SameButMarks (t u : List ℕ) : Type 0 where
  pub size : length u ≡ length t
  pub lock_all : (c : ℕ) → c ≤ most_bases → lock u c ≡ lock t c
  pub nomore_all : (c : ℕ) → c ≤ most_bases → nomore u c ≡ nomore t c
  pub count_all : (c : ℕ) → c ≤ most_bases → count u c ≡ count t c
  pub call_all : (q : ℕ) → 1 ≤ q → call u q ≡ call t q
  pub phase_all : (q : ℕ) → 1 ≤ q → phase u q ≡ phase t q

same_marks : (t : List ℕ) → SameButMarks t t
same_marks t = record { size = refl; lock_all = λ c h. refl; nomore_all = λ c h. refl; count_all = λ c h. refl; call_all = λ q h. refl; phase_all = λ q h. refl }

same_then : {t v u : List ℕ} → SameButMarks t v → SameButMarks v u → SameButMarks t u
same_then a b = record {
  size = b.size ∙ a.size;
  lock_all = λ c h. b.lock_all c h ∙ a.lock_all c h;
  nomore_all = λ c h. b.nomore_all c h ∙ a.nomore_all c h;
  count_all = λ c h. b.count_all c h ∙ a.count_all c h;
  call_all = λ q h. b.call_all q h ∙ a.call_all q h;
  phase_all = λ q h. b.phase_all q h ∙ a.phase_all q h;
}

-- processes 1 to n of t have been notified in u
pub record Notified (S : Routines) (b n : ℕ) (t u : List ℕ) : Type 0 where
  pub rest : SameButMarks t u
  pub wake_above : (q : ℕ) → 1 ≤ q → n < q → wake u q ≡ wake t q
  pub entry_above : (q : ℕ) → 1 ≤ q → n < q → entry u q ≡ entry t q
  pub wakes : (q : ℕ) → 1 ≤ q → q ≤ n → entry t q ≡ 1 → base_now S q (call t q) ≡ b → (wake u q ≡ 1) × (entry u q ≡ 0)
  pub passes : (q : ℕ) → 1 ≤ q → q ≤ n → (entry t q ≡ 1 → base_now S q (call t q) ≡ b → ⊥) → (wake u q ≡ wake t q) × (entry u q ≡ entry t q)

-- one process q
record One (S : Routines) (b q : ℕ) (t u : List ℕ) : Type 0 where
  rest : SameButMarks t u
  wake_else : (r : ℕ) → 1 ≤ r → r ≢ q → wake u r ≡ wake t r
  entry_else : (r : ℕ) → 1 ≤ r → r ≢ q → entry u r ≡ entry t r
  wakes : entry t q ≡ 1 → base_now S q (call t q) ≡ b → (wake u q ≡ 1) × (entry u q ≡ 0)
  passes : (entry t q ≡ 1 → base_now S q (call t q) ≡ b → ⊥) → (wake u q ≡ wake t q) × (entry u q ≡ entry t q)

module _ (S : Routines) (b : ℕ) where
  waits_is : (t : List ℕ) (q : ℕ) → waits S t b q ≡ true → (entry t q ≡ 1) × (base_now S q (call t q) ≡ b)
  unfolding waits
  waits_is t q e = (eqb-true _ _ (and_left _ _ e), eqb-true _ _ (and_right (eqb (entry t q) 1) _ e))

  is_waits : (t : List ℕ) (q : ℕ) → entry t q ≡ 1 → base_now S q (call t q) ≡ b → waits S t b q ≡ true
  unfolding waits
  is_waits t q e f = both (eq-eqb _ _ e) (eq-eqb _ _ f)

  one : (t : List ℕ) (q : ℕ) → length t ≡ table_words → 1 ≤ q → q ≤ most_processes → One S b q t (cond (waits S t b q) (put_marks t q 1 0) t)
  one t q len lo hi =
      by_test (waits S t b q)
      (λ e. let m = marks_put t q 1 0 len lo hi in rw e (record {
        rest = record { size = m.size; lock_all = m.lock_all; nomore_all = m.nomore_all; count_all = m.count_all; call_all = m.call_all; phase_all = m.phase_all };
        wake_else = m.wake_else;
        entry_else = m.entry_else;
        wakes = λ f g. (m.wake_is, m.entry_is);
        passes = λ f. absurd (f (waits_is t q e).0 (waits_is t q e).1);
      }))
      (λ e. rw e (record {
        rest = same_marks t;
        wake_else = λ r h g. refl;
        entry_else = λ r h g. refl;
        wakes = λ f g. absurd (clash (is_waits t q f g) e);
        passes = λ f. (refl, refl);
      }))

  notified_is : (n : ℕ) (t : List ℕ) → length t ≡ table_words → n ≤ most_processes → Notified S b n t (notified S b t n)
  unfolding notified
  notified_is zero t len hn =
      record { rest = same_marks t; wake_above = λ q h g. refl; entry_above = λ q h g. refl; wakes = λ q l u. absurd (omega arith); passes = λ q l u. absurd (omega arith) }
  notified_is (suc n) t len hn =
      let v : List ℕ = notified S b t n in
      let r : Notified S b n t v = notified_is n t len (omega arith) in
      let u : List ℕ = cond (waits S v b (suc n)) (put_marks v (suc n) 1 0) v in
      let o : One S b (suc n) v u = one v (suc n) (r.rest.size ∙ len) (omega arith) hn in
      record {
        rest = same_then r.rest o.rest;
        wake_above = λ q h g. o.wake_else q h (omega arith) ∙ r.wake_above q h (omega arith);
        entry_above = λ q h g. o.entry_else q h (omega arith) ∙ r.entry_above q h (omega arith);
        wakes = λ q l h e f. elim (ℕ_discrete q (suc n)) [
          | yes x ↦ rw x (o.wakes (rw x at (r.entry_above q l (omega arith) ∙ e)) (rw x at (ap (base_now S q) (r.rest.call_all q l) ∙ f)))
          | no x ↦ (let y = r.wakes q l (omega arith) e f in (o.wake_else q l x ∙ y.0, o.entry_else q l x ∙ y.1))
        ];
        passes = λ q l h e. elim (ℕ_discrete q (suc n)) [
          | yes x ↦ (let y = subst (λ z. (wake u z ≡ wake v z) × (entry u z ≡ entry v z)) (sym x) (o.passes (subst (λ z. entry v z ≡ 1 → base_now S z (call v z) ≡ b → ⊥) x (λ f g. e (sym (r.entry_above q l (omega arith)) ∙ f) (ap (base_now S q) (sym (r.rest.call_all q l)) ∙ g)))) in
              (y.0 ∙ r.wake_above q l (omega arith), y.1 ∙ r.entry_above q l (omega arith)))
          | no x ↦ (let y = r.passes q l (omega arith) e in (o.wake_else q l x ∙ y.0, o.entry_else q l x ∙ y.1))
        ];
      }

-- ---- a turn is a step

marks_on : {S : Routines} {p b : ℕ} {t v u : List ℕ} {q : ℕ} → MarksLine S p b t v q → wake u q ≡ wake v q → entry u q ≡ entry v q → MarksLine S p b t u q
marks_on (kept n w e) w2 e2 = kept n (w2 ∙ w) (e2 ∙ e)
marks_on (woken f g h i w e) w2 e2 = woken f g h i (w2 ∙ w) (e2 ∙ e)

notified_marks : {S : Routines} {p b : ℕ} {t u : List ℕ} → Notified S b S.N t u → phase t p ≡ 6 → (q : ℕ) → 1 ≤ q → MarksLine S p b t u q
notified_marks {S} {p} {b} {t} {u} o six q lo = go (dec_le q S.N) (ℕ_discrete (entry t q) 1) (ℕ_discrete (base_now S q (call t q)) b)
  where
    go : Dec (q ≤ S.N) → Dec (entry t q ≡ 1) → Dec (base_now S q (call t q) ≡ b) → MarksLine S p b t u q
    go (yes a) (yes c) (yes d) = woken six a c d (o.wakes q lo a c d).0 (o.wakes q lo a c d).1
    go (yes a) (yes c) (no d) = (let r = o.passes q lo a (λ f g. d g) in kept (λ f g h i. d i) r.0 r.1)
    go (yes a) (no c) d = (let r = o.passes q lo a (λ f g. c f) in kept (λ f g h i. c h) r.0 r.1)
    go (no a) c d = kept (λ f g h i. a g) (o.wake_above q lo (omega arith)) (o.entry_above q lo (omega arith))

rest_not_notifying : {kind : ℕ} {w : Words} → Rest kind w → w.phase ≢ 6
rest_not_notifying (rest_finished a b) = omega arith
rest_not_notifying (rest_waiting a b) = omega arith
rest_not_notifying (rest_stopped a) = omega arith

module _ (S : Routines) (g : WellFormed S) (p : ℕ) (t : List ℕ) (len : length t ≡ table_words) (p_low : 1 ≤ p) (p_high : p ≤ S.N) where
  kind_high : kind_now S p (call t p) ≤ decrease
  kind_high = kind_now_high S g p (call t p) p_low p_high

  abbrev Mine : ℕ → ℕ → Words → Type 0
  Mine b d v = Line p (kind_now S p (call t p)) (mark_now S p (call t p)) (words_at t b p) d v

  -- the line that a turn follows
  pub turn_line : Line p (kind_now S p (call t p)) (mark_now S p (call t p)) (words_at t (base_now S p (call t p)) p) (one_if_moves S t p) (unwrap_or (next_at S t p) (words_at t (base_now S p (call t p)) p))
  unfolding next_at one_if_moves moves did_of
  turn_line = line p (kind_now S p (call t p)) (mark_now S p (call t p)) (words_at t (base_now S p (call t p)) p) kind_high

  -- the words written over a table v that differs from t in marks alone
  wrote : (b : ℕ) (v : List ℕ) (y : Words) → b ≡ base_now S p (call t p) → 1 ≤ b → b ≤ most_bases → SameButMarks t v
      → ((q : ℕ) → 1 ≤ q → q ≢ p → MarksLine S p b t v q) → Mine b 1 y → Step S p b t (put_words v b p y) 1
  unfolding put_words words_at
  wrote b v y eb lo hi same vm ln =
      let a : List ℕ = put_base v b y.lock y.nomore y.count in
      let m : BasePut v a b y.lock y.nomore y.count = base_put v b y.lock y.nomore y.count (same.size ∙ len) lo hi in
      let u : List ℕ = put_process a p y.call y.phase y.wake y.entry in
      let r : ProcessPut a u p y.call y.phase y.wake y.entry = process_put a p y.call y.phase y.wake y.entry (m.size ∙ same.size ∙ len) p_low (omega (arith, g.few_processes)) in
      let is : words_at u b p ≡ y = λ i. record { lock = (r.lock_all b hi ∙ m.lock_is) i; nomore = (r.nomore_all b hi ∙ m.nomore_is) i; count = (r.count_all b hi ∙ m.count_is) i; call = r.call_is i; phase = r.phase_is i; wake = r.wake_is i; entry = r.entry_is i } in
      record {
        at_base = eb;
        size = r.size ∙ m.size ∙ same.size;
        follows = subst (Mine b 1) (sym is) ln;
        lock_else = λ c l h ne. r.lock_all c h ∙ m.lock_else c l ne ∙ same.lock_all c h;
        nomore_else = λ c l h ne. r.nomore_all c h ∙ m.nomore_else c l ne ∙ same.nomore_all c h;
        count_else = λ c l h ne. r.count_all c h ∙ m.count_else c l ne ∙ same.count_all c h;
        call_else = λ q l ne. r.call_else q l ne ∙ m.call_all q ∙ same.call_all q l;
        phase_else = λ q l ne. r.phase_else q l ne ∙ m.phase_all q ∙ same.phase_all q l;
        marks_else = λ q l ne. marks_on (vm q l ne) (r.wake_else q l ne ∙ m.wake_all q) (r.entry_else q l ne ∙ m.entry_all q);
      }

  module _ (fits : moves S t p ≡ true → (1 ≤ base_now S p (call t p)) × (base_now S p (call t p) ≤ most_bases)) where
    settled : (y : Option Words) → next_at S t p ≡ y → Step S p (base_now S p (call t p)) t (settle S t p y) (did_of y)
    unfolding settle did_of moves next_at words_at
    settled (Some y) e =
        let b : ℕ = base_now S p (call t p) in
        let fit = fits (ap is_some e) in
        let ln : Mine b 1 y = subst (λ z. Mine b (did_of z) (unwrap_or z (words_at t b p))) e (line p (kind_now S p (call t p)) (mark_now S p (call t p)) (words_at t b p) kind_high) in
        by_test (eqb (phase t p) 6)
        (λ six. let o = notified_is S b S.N t len g.few_processes in
        rw six (wrote b (notified S b t S.N) y refl fit.0 fit.1 o.rest (λ q lo ne. notified_marks o (eqb-true _ _ six) q lo) ln))
        (λ six. rw six (wrote b t y refl fit.0 fit.1 (same_marks t) (λ q lo ne. kept (λ f. absurd (eqb-false _ _ six f)) refl refl) ln))
    settled None e =
        let b : ℕ = base_now S p (call t p) in
        let ln : Mine b 0 (words_at t b p) = subst (λ z. Mine b (did_of z) (unwrap_or z (words_at t b p))) e (line p (kind_now S p (call t p)) (mark_now S p (call t p)) (words_at t b p) kind_high) in
        let n6 : phase t p ≢ 6 = rest_not_notifying (line_rests ln (omega arith)).why in
        record {
          at_base = refl;
          size = refl;
          follows = ln;
          lock_else = λ c h i f. refl;
          nomore_else = λ c h i f. refl;
          count_else = λ c h i f. refl;
          call_else = λ q h i. refl;
          phase_else = λ q h i. refl;
          marks_else = λ q lo ne. kept (λ f. absurd (n6 f)) refl refl;
        }

    -- a turn is a step, where its base lies in the table
    pub turn_step : Step S p (base_now S p (call t p)) t (turned S t p) (one_if_moves S t p)
    unfolding turned one_if_moves moves did_of
    turn_step = settled (next_at S t p) refl
