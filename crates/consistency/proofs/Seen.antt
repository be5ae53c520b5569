-- What the code sees of a process's holding is what the definitions say.
use mathlib.Core.Path.{◌≡◌, refl, sym, ◌∙◌, subst}
use mathlib.Core.Logic.{◌≢◌}
use mathlib.Core.Bool.{true, false, cond, ◌||◌}
use Rattle.std.specs.Prelude.{Some, Result, Ok, Err, MatchOption, MatchResult}
use Rattle.std.specs.Result.{result_ok}
use mathlib.Core.List.{List}
use Prim.Native.Nat.{ℕ, zero, suc, ◌≤◌, ◌<◌}
use native.Mathlib.Omega.{arith}
use native.Mathlib.Decide.{dec_le}
use lib.Dec.{eqb, leb}
use native.Mathlib.Numerals.{add-one}
use borrow.Author.Tests.{eqb-true, leb-true, eq-eqb, ne_eqb}
use Rattle.routine.specs.Limits.{most_bases}
use Rattle.routine.specs.Test.{and, by_test, and_left, and_right, implied, below_within, clash}
use Rattle.routine.specs.First.{every, every_is, every_same}
use Rattle.routine.specs.Routines.{Routines, routines, kind_now, base_now, free, fine, hold}
use Rattle.routine.specs.Rules.{WellFormed}
use Rattle.routine.specs.Calls.{call_of, call_at, call_is}
use Rattle.routine.specs.Rows.{RowOf, mark_in, marked_row, row_start, row_more}
use Rattle.routine.proofs.Holding.{kind_now_lem, base_now_lem, base_end, hold_else}
use Rattle.rules.specs.declared.phase.Phase.{Phase}
use Rattle.rules.specs.declared.phase.Phase.TheVariants as Ph
use Rattle.rules.specs.Phase.{phase_number}
use Rattle.rules.specs.Table.{call}
use Rattle.rules.specs.Consistent.{mark_now, effective, call_fits, completed_fine}
use Rattle.rules.proofs.Sentences.{Consistent}
use Rattle.consistency.specs.Following.{row_with, row_after, fine_after, fine_in, following}

pub phase_low : (ph : Phase) → leb (phase_number ph) 7 ≡ true
unfolding phase_number
phase_low Ph.Start = refl
phase_low Ph.Enlist = refl
phase_low Ph.SecondTry = refl
phase_low Ph.Delist = refl
phase_low Ph.SetSwitch = refl
phase_low Ph.Waiting = refl
phase_low Ph.Notify = refl
phase_low Ph.Stopped = refl

-- CALL is at most n, and n only in phase 0
pub call_fits_means : (n k ph : ℕ) → call_fits n k ph ≡ true → (k ≤ n) × (ph ≢ 0 → k < n)
unfolding call_fits
call_fits_means n k ph e =
    let l = leb-true k n (and_left _ _ e) in (
      l,
      λ ne. elim (dec_le n k) [
        | yes h ↦ absurd (ne (eqb-true _ _ (implied (eqb k n) _ (and_right (leb k n) _ e) (eq-eqb k n (omega arith)))))
        | no h ↦ omega arith
      ],
    )

module _ (S : Routines) (g : WellFormed S) (p : ℕ) (lo : 1 ≤ p) (hi : p ≤ S.N) where
  -- no call names base 0
  hold_nowhere : (k : ℕ) → k ≤ S.calls p → hold S p k 0 ≡ free
  hold_nowhere zero h = unfold hold in refl
  hold_nowhere (suc k) h = hold_else S p k 0 (λ z. omega (arith, g.base_low p k lo hi h)) ∙ hold_nowhere k (omega arith)

  module _ (row : List ℕ) (k : ℕ) (h : k ≤ S.calls p) (r : RowOf row S p k) where
    -- the row's mark of the current base, also where there is none
    pub mark_seen : mark_in row (base_now S p k) ≡ mark_now S p k
    unfolding mark_now mark_in
    mark_seen = elim (dec_le (S.calls p) k) [
      | yes l ↦ rw (base_end S p k l) (simp (below_within 1 most_bases 0 (omega arith)) (sym (hold_nowhere k h)))
      | no l ↦ rw (base_now_lem S p k (omega arith)) (r.at (S.base p k) (g.base_low p k lo hi (omega arith)) (omega (arith, g.base_high p k lo hi (omega arith), g.few_bases)))
    ]

    -- in phases 3 and 6 the row after the current call is what is held
    pub held_seen : (ph : ℕ) → (ph ≢ 0 → k < S.calls p) → RowOf (cond (eqb ph 3 || eqb ph 6) (marked_row row (kind_now S p k) (base_now S p k)) row) S p (effective k ph)
    unfolding effective
    held_seen ph c =
        by_test (eqb ph 3 || eqb ph 6)
        (λ e. let l = c (not_0 ph e) in
        rw e (rw (kind_now_lem S p k l, base_now_lem S p k l) (row_more row S p k (g.base_low p k lo hi l) (omega (arith, g.base_high p k lo hi l, g.few_bases)) r)))
        (λ e. rw e r)
      where
        not_0 : (q : ℕ) → eqb q 3 || eqb q 6 ≡ true → q ≢ 0
        not_0 q e z = clash (subst (λ x. eqb x 3 || eqb x 6 ≡ true) z e) refl

-- what `ok` hands on
pub kept : {A E : Type 0} (P : A → Type 0) (Q : Type 0) (R : E → Type 0) (r : Result A E) → ((e : E) → R e → Q) → MatchResult r P R → MatchOption (result_ok r) Q P
kept P Q R (Ok a) f m = m
kept P Q R (Err e) f m = f e m

-- at a consistent table no completed call was a logic error
pub all_fine : (S : Routines) (t : List ℕ) (p : ℕ) → Consistent S t → 1 ≤ p → p ≤ S.N → completed_fine S p (call t p) ≡ true
unfolding completed_fine
all_fine S t p o lo hi = every_is _ 0 (call t p) (omega arith) (λ j l h. (o.process p lo hi).completed_fine j h)

-- ---- the calls as the code follows them

module _ (f : List ℕ) (g : WellFormed (routines f)) (p : ℕ) (lo : 1 ≤ p) (hi : p ≤ (routines f).N) where
  there : (k : ℕ) → k < (routines f).calls p → call_at f p k ≡ Some (call_of ((routines f).kind p k) ((routines f).base p k))
  there k h = call_is f p k lo hi h (g.few_calls p lo hi)

  row_is : (k : ℕ) → k ≤ (routines f).calls p → RowOf (row_after f p k) (routines f) p k
  unfolding row_after row_with
  row_is zero h = row_start (routines f) p
  row_is (suc k) h =
      let l : k < (routines f).calls p = omega arith in
      rw (there k l, ← add-one k) (row_more (row_after f p k) (routines f) p k (g.base_low p k lo hi l) (omega (arith, g.base_high p k lo hi l, g.few_bases)) (row_is k (omega arith)))

  fine_is : (k : ℕ) → k < (routines f).calls p → fine_after f p k ≡ fine ((routines f).kind p k) (hold (routines f) p k ((routines f).base p k))
  unfolding fine_after fine_in and
  fine_is k l =
      rw (there k l)
      (simp (ne_eqb ((routines f).kind p k) 0 (λ z. omega (arith, g.kind_low p k lo hi l)), (row_is k (omega arith)).at ((routines f).base p k) (g.base_low p k lo hi l) (omega (arith, g.base_high p k lo hi l, g.few_bases))))

  -- they are fine where the definition says so, and the row is then what they leave held
  pub followed : (k : ℕ) → k ≤ (routines f).calls p → (r : Result (List ℕ) (List ℕ)) → r ≡ following f p k
      → MatchResult r (λ row. (completed_fine (routines f) p k ≡ true) × RowOf row (routines f) p k) (λ _. completed_fine (routines f) p k ≡ false)
  unfolding following completed_fine
  followed k h r e =
      let s = every_same (fine_after f p) (λ j. fine ((routines f).kind p j) (hold (routines f) p j ((routines f).base p j))) 0 k (omega arith) (λ j l i. fine_is j (omega arith)) in
      by_test (every (fine_after f p) 0 k)
      (λ t. rw (e, t) (sym s ∙ t, row_is k h))
      (λ t. rw (e, t) (sym s ∙ t))
