-- The sentences of "Consistent means all of these" as plain statements, and that the test says exactly them.
use mathlib.Core.Path.{◌≡◌, refl, sym, ◌∙◌}
use mathlib.Core.Logic.{◌≢◌}
use mathlib.Core.Bool.{Bool, true, false, beq}
use mathlib.Core.List.{List}
use Prim.Native.Nat.{ℕ, ◌+◌, ◌≤◌, ◌<◌}
use native.Mathlib.Omega.{arith}
use lib.Dec.{eqb, leb}
use borrow.Author.Tests.{eqb-true, eqb-false, leb-true, leb-false, eq-eqb, ne_eqb, le-leb, lt-leb, not-true}
use Rattle.routine.specs.Test.{within, by_test, clash, and_left, and_right, both, implied, implying, within_is, is_within}
use Rattle.routine.specs.First.{every, every_at, every_is}
use Rattle.routine.specs.Limits.{most_processes, most_bases}
use Rattle.routine.specs.Routines.{Routines, kind_now, modlock, readlock, unlock, decrease, fine, hold}
use Rattle.routine.specs.Rules.{WellFormed}
use Rattle.rules.specs.Table.{lock, nomore, count, call, phase, wake, entry}
use Rattle.rules.specs.Consistent.{mark_now, call_fits, completed_fine, stands_well, marks_allowed, process_fits, process_zero, owns, lock_fits, readers, base_fits, base_zero, process_good, base_good, consistent}

-- ---- the sentences

-- where phase ph stands, at a call of this kind whose base has the mark old from the completed calls
pub record Stands (kind old ph : ℕ) : Type 0 where
  -- "Phases 1 to 5 stand at a modlock or readlock"
  pub take_low : 1 ≤ ph → ph ≤ 5 → modlock ≤ kind
  pub take_high : 1 ≤ ph → ph ≤ 5 → kind ≤ readlock
  -- "4 at a modlock only"
  pub switch_at : ph ≡ 4 → kind ≡ modlock
  -- "6 at an unlock or decrease"
  pub release_low : ph ≡ 6 → unlock ≤ kind
  pub release_high : ph ≡ 6 → kind ≤ decrease
  -- "none of them at a logic error"
  pub no_error : 1 ≤ ph → ph ≤ 6 → fine kind old ≡ true
  -- "phase 7 stands at a logic error"
  pub stopped_low : ph ≡ 7 → modlock ≤ kind
  pub stopped_high : ph ≡ 7 → kind ≤ decrease
  pub stopped_error : ph ≡ 7 → fine kind old ≡ false

-- "in phases 2 to 5 exactly one of WAKE and ENTRY is 1; in the others both are 0"
pub record Marks (ph w e : ℕ) : Type 0 where
  pub one : 2 ≤ ph → ph ≤ 5 → w + e ≡ 1
  pub none_before : ph ≤ 1 → (w ≡ 0) × (e ≡ 0)
  pub none_after : 6 ≤ ph → (w ≡ 0) × (e ≡ 0)

-- process p, with CALL k, PHASE ph, WAKE w and ENTRY e
pub record ProcessConsistent (S : Routines) (p k ph w e : ℕ) : Type 0 where
  -- "PHASE is 0 to 7"
  pub phase_low : ph ≤ 7
  -- "CALL is at most n, and n only in phase 0"
  pub call_low : k ≤ S.calls p
  pub end_phase : k ≡ S.calls p → ph ≡ 0
  -- "No completed call was a logic error in its turn"
  pub completed_fine : (j : ℕ) → j < k → fine (S.kind p j) (hold S p j (S.base p j)) ≡ true
  pub stands : Stands (kind_now S p k) (mark_now S p k) ph
  pub marks : Marks ph w e

-- base b
pub record BaseConsistent (S : Routines) (t : List ℕ) (b : ℕ) : Type 0 where
  -- "NOMORE is 0 or 1"
  pub nomore_low : nomore t b ≤ 1
  -- "LOCK of b is p exactly if p modifies b, else 0"
  pub lock_low : lock t b ≤ S.N
  pub lock_owner : (p : ℕ) → 1 ≤ p → p ≤ S.N → lock t b ≡ p → owns S t b p ≡ true
  pub owner_lock : (p : ℕ) → 1 ≤ p → p ≤ S.N → owns S t b p ≡ true → lock t b ≡ p
  -- "COUNT of b is the number of processes that read it"
  pub count_readers : count t b ≡ readers S t b
  -- "LOCK and COUNT of one base are never both non-zero"
  pub not_both : lock t b ≢ 0 → count t b ≡ 0

pub record Consistent (S : Routines) (t : List ℕ) : Type 0 where
  pub process : (p : ℕ) → 1 ≤ p → p ≤ S.N → ProcessConsistent S p (call t p) (phase t p) (wake t p) (entry t p)
  pub base : (b : ℕ) → 1 ≤ b → b ≤ S.B → BaseConsistent S t b
  -- "words of bases above B and processes above N are zero"
  pub process_above : (p : ℕ) → S.N < p → p ≤ most_processes → (call t p ≡ 0) × (phase t p ≡ 0) × (wake t p ≡ 0) × (entry t p ≡ 0)
  pub base_above : (b : ℕ) → S.B < b → b ≤ most_bases → (lock t b ≡ 0) × (nomore t b ≡ 0) × (count t b ≡ 0)

-- ---- where a phase stands

module _ (kind old ph : ℕ) where
  at_take : stands_well ph kind old ≡ true → 1 ≤ ph → ph ≤ 5 → (modlock ≤ kind) × (kind ≤ readlock) × (fine kind old ≡ true)
  unfolding stands_well
  at_take e l h =
      by_test (eqb ph 4)
      (λ f. let g = rw (ne_eqb ph 0 (omega arith), f) at e in let k = eqb-true kind 1 (and_left _ _ g) in (omega arith, omega arith, and_right (eqb kind 1) _ g))
      (λ f. let g = rw (ne_eqb ph 0 (omega arith), f, le-leb ph 5 h) at e in let k = within_is 1 2 kind (and_left _ _ g) in (k.0, k.1, and_right (within 1 2 kind) _ g))

  at_switch : stands_well ph kind old ≡ true → ph ≡ 4 → kind ≡ modlock
  unfolding stands_well
  at_switch e f = eqb-true _ _ (and_left _ _ (rw f at e))

  at_release : stands_well ph kind old ≡ true → ph ≡ 6 → (unlock ≤ kind) × (kind ≤ decrease) × (fine kind old ≡ true)
  unfolding stands_well
  at_release e f = let g = rw f at e in let k = within_is 3 4 kind (and_left _ _ g) in (k.0, k.1, and_right (within 3 4 kind) _ g)

  at_error : stands_well ph kind old ≡ true → ph ≡ 7 → (modlock ≤ kind) × (kind ≤ decrease) × (fine kind old ≡ false)
  unfolding stands_well
  at_error e f = let g = rw f at e in let k = within_is 1 4 kind (and_left _ _ g) in (k.0, k.1, not-true _ (and_right (within 1 4 kind) _ g))

  stands_means : stands_well ph kind old ≡ true → Stands kind old ph
  stands_means e = record {
    take_low = λ l h. (at_take e l h).0;
    take_high = λ l h. (at_take e l h).1;
    switch_at = at_switch e;
    release_low = λ f. (at_release e f).0;
    release_high = λ f. (at_release e f).1;
    no_error = λ l h. by_test (eqb ph 6) (λ f. (at_release e (eqb-true _ _ f)).2) (λ f. let ne = eqb-false ph 6 f in (at_take e l (omega arith)).2);
    stopped_low = λ f. (at_error e f).0;
    stopped_high = λ f. (at_error e f).1;
    stopped_error = λ f. (at_error e f).2;
  }

  means_stands : ph ≤ 7 → Stands kind old ph → stands_well ph kind old ≡ true
  unfolding stands_well
  means_stands h s =
      by_test (eqb ph 0) (λ f. rw f refl)
      (λ f0. let n0 = eqb-false ph 0 f0 in by_test (eqb ph 4)
      (λ f. let a = eqb-true ph 4 f in rw (f0, f) (both (eq-eqb _ _ (s.switch_at a)) (s.no_error (omega arith) (omega arith))))
      (λ f4. by_test (leb ph 5)
      (λ f. let a = leb-true ph 5 f in rw (f0, f4, f) (both (is_within 1 2 kind (s.take_low (omega arith) a) (s.take_high (omega arith) a)) (s.no_error (omega arith) (omega arith))))
      (λ f5. let n5 = leb-false ph 5 f5 in by_test (eqb ph 6)
      (λ f. let a = eqb-true ph 6 f in rw (f0, f4, f5, f) (both (is_within 3 4 kind (s.release_low a) (s.release_high a)) (s.no_error (omega arith) (omega arith))))
      (λ f6. let n6 = eqb-false ph 6 f6 in let a : ph ≡ 7 = omega arith in
      rw (f0, f4, f5, f6) (both (is_within 1 4 kind (s.stopped_low a) (s.stopped_high a)) (rw (s.stopped_error a)))))))

module _ (ph w e : ℕ) where
  marks_mean : marks_allowed ph w e ≡ true → Marks ph w e
  unfolding marks_allowed
  marks_mean m = record {
    one = λ l h. eqb-true _ _ (and_right (within 0 1 w) _ (rw (is_within 2 5 ph l h) at m));
    none_before = λ h. none (λ f. omega (arith, within_is 2 5 ph f));
    none_after = λ h. none (λ f. omega (arith, within_is 2 5 ph f));
  }
    where
      none : (within 2 5 ph ≡ true → ⊥) → (w ≡ 0) × (e ≡ 0)
      none n = by_test (within 2 5 ph) (λ f. absurd (n f)) (λ f. let g = rw f at m in (eqb-true _ _ (and_left _ _ g), eqb-true _ _ (and_right (eqb w 0) _ g)))

  means_marks : Marks ph w e → marks_allowed ph w e ≡ true
  unfolding marks_allowed
  means_marks m =
      by_test (within 2 5 ph)
      (λ f. let i = within_is 2 5 ph f in let s = m.one i.0 i.1 in rw f (both (is_within 0 1 w (omega arith) (omega arith)) (eq-eqb (w + e) 1 s)))
      (λ f. let z = none f in rw f (both (eq-eqb _ _ z.0) (eq-eqb _ _ z.1)))
    where
      none : within 2 5 ph ≡ false → (w ≡ 0) × (e ≡ 0)
      none f = by_test (leb ph 1) (λ g. m.none_before (leb-true _ _ g))
          (λ g. let a = leb-false ph 1 g in by_test (leb 6 ph) (λ h. m.none_after (leb-true _ _ h))
          (λ h. let c = leb-false 6 ph h in absurd (clash (is_within 2 5 ph (omega arith) (omega arith)) f)))

-- ---- a process

module _ (S : Routines) (t : List ℕ) where
  call_means : (n k ph : ℕ) → call_fits n k ph ≡ true → (k ≤ n) × (k ≡ n → ph ≡ 0)
  unfolding call_fits
  call_means n k ph e = (leb-true _ _ (and_left _ _ e), λ f. eqb-true _ _ (implied (eqb k n) _ (and_right (leb k n) _ e) (eq-eqb _ _ f)))

  means_call : (n k ph : ℕ) → k ≤ n → (k ≡ n → ph ≡ 0) → call_fits n k ph ≡ true
  unfolding call_fits
  means_call n k ph l f = both (le-leb _ _ l) (implying _ _ (λ e. eq-eqb _ _ (f (eqb-true _ _ e))))

  completed_means : (p k : ℕ) → completed_fine S p k ≡ true → (j : ℕ) → j < k → fine (S.kind p j) (hold S p j (S.base p j)) ≡ true
  unfolding completed_fine
  completed_means p k e j h = every_at (λ j. fine (S.kind p j) (hold S p j (S.base p j))) 0 k e j (omega arith) h

  means_completed : (p k : ℕ) → ((j : ℕ) → j < k → fine (S.kind p j) (hold S p j (S.base p j)) ≡ true) → completed_fine S p k ≡ true
  unfolding completed_fine
  means_completed p k f = every_is _ 0 k (omega arith) (λ j l h. f j h)

  process_means : (p : ℕ) → process_fits S t p ≡ true → ProcessConsistent S p (call t p) (phase t p) (wake t p) (entry t p)
  unfolding process_fits
  process_means p e =
      let f1 = and_right (leb (phase t p) 7) _ e in
      let c = call_means (S.calls p) (call t p) (phase t p) (and_left _ _ f1) in
      let f2 = and_right (call_fits (S.calls p) (call t p) (phase t p)) _ f1 in
      let f3 = and_right (completed_fine S p (call t p)) _ f2 in
      record {
        phase_low = leb-true _ _ (and_left _ _ e);
        call_low = c.0;
        end_phase = c.1;
        completed_fine = completed_means p (call t p) (and_left _ _ f2);
        stands = stands_means _ _ _ (and_left _ _ f3);
        marks = marks_mean _ _ _ (and_right (stands_well (phase t p) (kind_now S p (call t p)) (mark_now S p (call t p))) _ f3);
      }

  means_process : (p : ℕ) → ProcessConsistent S p (call t p) (phase t p) (wake t p) (entry t p) → process_fits S t p ≡ true
  unfolding process_fits
  means_process p o =
      both (le-leb _ _ o.phase_low)
      (both (means_call _ _ _ o.call_low o.end_phase)
      (both (means_completed p (call t p) o.completed_fine)
      (both (means_stands _ _ _ o.phase_low o.stands)
      (means_marks _ _ _ o.marks))))

  zero_means : (p : ℕ) → process_zero t p ≡ true → (call t p ≡ 0) × (phase t p ≡ 0) × (wake t p ≡ 0) × (entry t p ≡ 0)
  unfolding process_zero
  zero_means p e =
      let f1 = and_right (eqb (call t p) 0) _ e in
      let f2 = and_right (eqb (phase t p) 0) _ f1 in
      (eqb-true _ _ (and_left _ _ e), eqb-true _ _ (and_left _ _ f1), eqb-true _ _ (and_left _ _ f2), eqb-true _ _ (and_right (eqb (wake t p) 0) _ f2))

  means_zero : (p : ℕ) → (call t p ≡ 0) × (phase t p ≡ 0) × (wake t p ≡ 0) × (entry t p ≡ 0) → process_zero t p ≡ true
  unfolding process_zero
  means_zero p z = both (eq-eqb _ _ z.0) (both (eq-eqb _ _ z.1) (both (eq-eqb _ _ z.2) (eq-eqb _ _ z.3)))

  -- ---- a base

  same_true : (x y : Bool) → beq x y ≡ true → x ≡ y
  same_true true true e = refl
  same_true true false e = sym e
  same_true false true e = e
  same_true false false e = refl

  same_is : (x y : Bool) → (x ≡ true → y ≡ true) → (y ≡ true → x ≡ true) → beq x y ≡ true
  same_is true true f g = refl
  same_is true false f g = f refl
  same_is false true f g = g refl
  same_is false false f g = refl

  lock_means : (b : ℕ) → lock_fits S t b ≡ true → (lock t b ≤ S.N) × ((p : ℕ) → 1 ≤ p → p ≤ S.N → eqb (lock t b) p ≡ owns S t b p)
  unfolding lock_fits
  lock_means b e = (
    leb-true _ _ (and_left _ _ e),
    λ p l h. same_true _ _ (every_at (λ p. beq (eqb (lock t b) p) (owns S t b p)) 1 (S.N + 1) (and_right (leb (lock t b) S.N) _ e) p l (omega arith)),
  )

  means_lock : (b : ℕ) → BaseConsistent S t b → lock_fits S t b ≡ true
  unfolding lock_fits
  means_lock b o =
      both (le-leb _ _ o.lock_low)
      (every_is _ 1 (S.N + 1) (omega arith)
      (λ p l h. let u : p ≤ S.N = omega arith in same_is _ _ (λ f. o.lock_owner p l u (eqb-true _ _ f)) (λ f. eq-eqb _ _ (o.owner_lock p l u f))))

  base_means : (b : ℕ) → base_fits S t b ≡ true → BaseConsistent S t b
  unfolding base_fits
  base_means b e =
      let f1 = and_right (leb (nomore t b) 1) _ e in
      let l = lock_means b (and_left _ _ f1) in
      let f2 = and_right (lock_fits S t b) _ f1 in
      record {
        nomore_low = leb-true _ _ (and_left _ _ e);
        lock_low = l.0;
        lock_owner = λ p lo hi f. sym (l.1 p lo hi) ∙ eq-eqb _ _ f;
        owner_lock = λ p lo hi f. eqb-true _ _ (l.1 p lo hi ∙ f);
        count_readers = eqb-true _ _ (and_left _ _ f2);
        not_both = λ n. eqb-true _ _ (rw (ne_eqb (lock t b) 0 n) at (and_right (eqb (count t b) (readers S t b)) _ f2));
      }

  means_base : (b : ℕ) → BaseConsistent S t b → base_fits S t b ≡ true
  unfolding base_fits
  means_base b o =
      both (le-leb _ _ o.nomore_low)
      (both (means_lock b o)
      (both (eq-eqb _ _ o.count_readers)
      (by_test (eqb (lock t b) 0) (λ f. rw f refl) (λ f. rw (f, eq-eqb (count t b) 0 (o.not_both (eqb-false _ _ f))) refl))))

  empty_means : (b : ℕ) → base_zero t b ≡ true → (lock t b ≡ 0) × (nomore t b ≡ 0) × (count t b ≡ 0)
  unfolding base_zero
  empty_means b e =
      let f1 = and_right (eqb (lock t b) 0) _ e in
      (eqb-true _ _ (and_left _ _ e), eqb-true _ _ (and_left _ _ f1), eqb-true _ _ (and_right (eqb (nomore t b) 0) _ f1))

  means_empty : (b : ℕ) → (lock t b ≡ 0) × (nomore t b ≡ 0) × (count t b ≡ 0) → base_zero t b ≡ true
  unfolding base_zero
  means_empty b z = both (eq-eqb _ _ z.0) (both (eq-eqb _ _ z.1) (eq-eqb _ _ z.2))

  -- ---- the table

  module _ (e : consistent S t ≡ true) where
    process_good_lem : (p : ℕ) → 1 ≤ p → p ≤ most_processes → process_good S t p ≡ true
    unfolding consistent
    process_good_lem p l h = every_at (process_good S t) 1 (most_processes + 1) (and_left _ _ e) p l (omega arith)

    base_good_lem : (b : ℕ) → 1 ≤ b → b ≤ most_bases → base_good S t b ≡ true
    unfolding consistent
    base_good_lem b l h = every_at (base_good S t) 1 (most_bases + 1) (and_right (every (process_good S t) 1 (most_processes + 1)) _ e) b l (omega arith)

  -- a table that the test passes keeps the sentences
  pub consistent_means : WellFormed S → consistent S t ≡ true → Consistent S t
  unfolding process_good base_good
  consistent_means g e = record {
    process = λ p l h. process_means p (rw (le-leb p S.N h) at (process_good_lem e p l (omega (arith, g.few_processes))));
    base = λ b l h. base_means b (rw (le-leb b S.B h) at (base_good_lem e b l (omega (arith, g.few_bases))));
    process_above = λ p l h. zero_means p (rw (lt-leb p S.N l) at (process_good_lem e p (omega arith) h));
    base_above = λ b l h. empty_means b (rw (lt-leb b S.B l) at (base_good_lem e b (omega arith) h));
  }

  -- and a table that keeps them passes the test
  pub means_consistent : Consistent S t → consistent S t ≡ true
  unfolding consistent process_good base_good
  means_consistent o =
      both
      (every_is (process_good S t) 1 (most_processes + 1) (omega arith)
      (λ p l h. by_test (leb p S.N) (λ f. rw f (means_process p (o.process p l (leb-true _ _ f)))) (λ f. rw f (means_zero p (o.process_above p (leb-false _ _ f) (omega arith))))))
      (every_is (base_good S t) 1 (most_bases + 1) (omega arith)
      (λ b l h. by_test (leb b S.B) (λ f. rw f (means_base b (o.base b l (leb-true _ _ f)))) (λ f. rw f (means_empty b (o.base_above b (leb-false _ _ f) (omega arith))))))
