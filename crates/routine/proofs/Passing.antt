-- The judge passes exactly the well-formed files that keep the rules, and what else holds of such a file.
use mathlib.Core.Path.{◌≡◌, sym, ap, ◌∙◌}
use mathlib.Core.Logic.{◌≢◌}
use mathlib.Core.Bool.{true, false, not}
use mathlib.Core.List.{List, [], ◌∷◌}
use Prim.Native.Nat.{ℕ, ◌+◌, ◌≤◌, ◌<◌}
use native.Mathlib.Omega.{arith}
use native.Mathlib.Decide.{dec_le}
use lib.Dec.{eqb, ltb}
use borrow.Author.Tests.{eqb-true, ltb-true, eq-eqb, ne_eqb, lt-ltb, le-leb, lt-leb}
use Rattle.std.specs.Prelude.{Some, None, Ok, Err}
use Rattle.routine.specs.declared.refusal.Refusal.{Refusal}
use Rattle.routine.specs.declared.refusal.Refusal.TheVariants.{Routine}
use Rattle.routine.specs.Limits.{most_bases}
use Rattle.routine.specs.Test.{implies, by_test, implied, implying, clash}
use Rattle.routine.specs.First.{first_here, first_is, every_at, every_is}
use Rattle.routine.specs.Refusal.{shown_of, shown, numbers, given, unless, unless_none, unless_some, none_due, some_due, only_due, by_due, some_none, ok_err}
use Rattle.routine.specs.Routines.{Routines, routines, readlock, free, hold}
use Rattle.routine.specs.Rules.{WellFormed, KeepsRules}
use Rattle.routine.specs.Reading.{first_block, file_refusals, file_refusal, reading}
use Rattle.routine.specs.Judging.{is_take, only_lower, call_good, nothing_held, place_good, failing_place, routine_passes, failing_block, passes, judgement, judge_refusals, judge_refusal, judging}
use Rattle.routine.proofs.Walking.{place_call, place_end, stops}
use Rattle.routine.proofs.Refused.{FirstBad, gives_refusal}
use Rattle.routine.proofs.Formed.{not_refused}

-- ---- what the judge answers, from the reader's refusal and the walk's

module _ (f : List ℕ) where
  pub file_refused : (r : Refusal) → file_refusal f ≡ Some r → judging f ≡ Err r
  unfolding judging judge_refusal judge_refusals file_refusal
  file_refused r e = unless_some _ _ r (some_due (file_refusals f) (judgement (routines f) ∷ []) r e)

  -- where the file is not refused, the walk decides
  pub judge_walks : file_refusal f ≡ None → judging f ≡ unless (judgement (routines f)) tt
  unfolding judging judge_refusal judge_refusals file_refusal
  judge_walks z = ap (λ o. unless o tt) (none_due (file_refusals f) (judgement (routines f) ∷ []) z ∙ only_due (judgement (routines f)))

  pub walk_refused : (r : Refusal) → file_refusal f ≡ None → judgement (routines f) ≡ Some r → judging f ≡ Err r
  walk_refused r z e = judge_walks z ∙ unless_some _ _ r e

  pub walk_passes : file_refusal f ≡ None → judgement (routines f) ≡ None → judging f ≡ Ok tt
  walk_passes z y = judge_walks z ∙ unless_none _ _ y

  -- ---- the numbers that the judge shows

  -- those of the reader, where it refuses the file
  pub shows_as_read : (r : Refusal) → file_refusal f ≡ Some r → numbers (judging f) ≡ numbers (reading f)
  unfolding numbers
  shows_as_read r e = ap numbers (file_refused r e) ∙ sym (ap numbers (gives_refusal f r e))

  -- 4: "the file does not pass", no earlier number is due, and the first failing call is shown: block p is the first whose routine fails, k the first place where it does
  pub shows_4 : (p k : ℕ) → file_refusal f ≡ None → FirstBad (routine_passes (routines f)) (routines f).N p → k ≤ (routines f).calls p → place_good (routines f) p k ≡ false → ((j : ℕ) → j < k → place_good (routines f) p j ≡ true) → numbers (judging f) ≡ shown_of 4 p (k + 1)
  unfolding numbers shown failing_place failing_block first_block
  shows_4 p k z b h bad before =
      let S = routines f in
      let inside = first_here (place_good S p) k (S.calls p + 1) (omega arith) bad ∙ sym (first_is (place_good S p) 0 (S.calls p + 1) k (omega arith) (omega arith) (λ j _ l. before j l) (λ _. bad)) in
      let blocks = first_here (routine_passes S) p (S.N + 1) (omega (arith, b.high)) b.fails ∙ sym (first_is (routine_passes S) 1 (S.N + 1) p b.low (omega (arith, b.high)) b.before (λ _. b.fails)) in
      ap numbers (walk_refused (Routine p (k + 1)) z (stops S p k inside blocks b.high h bad))

-- ---- the walk finds nothing exactly where the rules are kept

passes_found : (S : Routines) → judgement S ≡ None → passes S ≡ true
unfolding judgement given
passes_found S z = by_test (passes S) (λ e. e) (λ e. absurd (some_none _ (simp e at z)))

found_passes : (S : Routines) → passes S ≡ true → judgement S ≡ None
unfolding judgement given
found_passes S e = simp e

module _ (S : Routines) (e : passes S ≡ true) where
  at_place : (p k : ℕ) → 1 ≤ p → p ≤ S.N → k ≤ S.calls p → place_good S p k ≡ true
  unfolding passes routine_passes
  at_place p k lo hi h = every_at (place_good S p) 0 (S.calls p + 1) (every_at (routine_passes S) 1 (S.N + 1) e p lo (omega arith)) k (omega arith) (omega arith)

  at_call : (p k : ℕ) → 1 ≤ p → p ≤ S.N → k < S.calls p → call_good (hold S p k) (S.kind p k) (S.base p k) ≡ true
  at_call p k lo hi h = sym (place_call S p k h) ∙ at_place p k lo hi (omega arith)

  pub passes_keeps : KeepsRules S
  unfolding call_good is_take only_lower nothing_held
  passes_keeps = record {
    takes = λ p k lo hi h small c cl ch held. ltb-true _ _
        (implied _ _ (every_at (λ d. implies (not (eqb (hold S p k d) free)) (ltb d (S.base p k))) 1 (most_bases + 1) (simp (le-leb _ _ small) at (at_call p k lo hi h)) c cl (omega arith))
        (simp (ne_eqb _ _ held)));
    releases = λ p k lo hi h big. simp (lt-leb (S.kind p k) readlock (omega arith)) at (at_call p k lo hi h);
    end = λ p lo hi c cl ch. eqb-true _ _ (every_at (λ d. eqb (hold S p (S.calls p) d) free) 1 (most_bases + 1) (sym (place_end S p (S.calls p) (omega arith)) ∙ at_place p (S.calls p) lo hi (omega arith)) c cl (omega arith));
  }

module _ (S : Routines) (r : KeepsRules S) where
  call_kept : (p k : ℕ) → 1 ≤ p → p ≤ S.N → k < S.calls p → call_good (hold S p k) (S.kind p k) (S.base p k) ≡ true
  unfolding call_good is_take only_lower
  call_kept p k lo hi h =
      elim (dec_le (S.kind p k) readlock) [
        | yes small ↦ simp (le-leb _ _ small)
            (every_is (λ d. implies (not (eqb (hold S p k d) free)) (ltb d (S.base p k))) 1 (most_bases + 1) (omega arith)
            (λ c cl ch. implying _ _ (λ t. lt-ltb _ _ (r.takes p k lo hi h small c cl (omega arith) (held c t)))))
        | no big ↦ simp (lt-leb (S.kind p k) readlock (omega arith)) (r.releases p k lo hi h (omega arith))
      ]
    where
      held : (c : ℕ) → not (eqb (hold S p k c) free) ≡ true → hold S p k c ≢ free
      held c t z = clash t (simp (eq-eqb _ _ z))

  end_kept : (p : ℕ) → 1 ≤ p → p ≤ S.N → nothing_held (hold S p (S.calls p)) ≡ true
  unfolding nothing_held
  end_kept p lo hi = every_is (λ c. eqb (hold S p (S.calls p) c) free) 1 (most_bases + 1) (omega arith) (λ c cl ch. eq-eqb _ _ (r.end p lo hi c cl (omega arith)))

  place_kept : (p : ℕ) → 1 ≤ p → p ≤ S.N → (k : ℕ) → k ≤ S.calls p → place_good S p k ≡ true
  place_kept p lo hi k h = elim (dec_le (S.calls p) k) [
    | yes l ↦ (let e : k ≡ S.calls p = omega arith in rw e (place_end S p (S.calls p) (omega arith) ∙ end_kept p lo hi))
    | no l ↦ place_call S p k (omega arith) ∙ call_kept p k lo hi (omega arith)
  ]

  pub keeps_passes : passes S ≡ true
  unfolding passes routine_passes
  keeps_passes =
      every_is (routine_passes S) 1 (S.N + 1) (omega arith)
      (λ p lo hi. every_is (place_good S p) 0 (S.calls p + 1) (omega arith) (λ k l h. place_kept p lo (omega arith) k (omega arith)))

-- ---- the judge, both ways

-- a file that the judge passes is not refused by the reader, and its walk finds nothing
pub record Passed (f : List ℕ) : Type 0 where
  pub not_refused : file_refusal f ≡ None
  pub well_formed : WellFormed (routines f)
  pub keeps : KeepsRules (routines f)

pub passed : (f : List ℕ) → judging f ≡ Ok tt → Passed f
passed f e =
    by_due (file_refusal f)
    (λ z. by_due (judgement (routines f))
    (λ y. record {
      not_refused = z;
      well_formed = (not_refused f z).well_formed;
      keeps = passes_keeps (routines f) (passes_found (routines f) y);
    })
    (λ r y. absurd (ok_err tt r (sym e ∙ walk_refused f r z y))))
    (λ r z. absurd (ok_err tt r (sym e ∙ file_refused f r z)))

pub passing : (f : List ℕ) → file_refusal f ≡ None → KeepsRules (routines f) → judging f ≡ Ok tt
passing f z r = walk_passes f z (found_passes (routines f) (keeps_passes (routines f) r))

-- zeros are shown of a file that passes
pub shows_passing : (f : List ℕ) → file_refusal f ≡ None → KeepsRules (routines f) → numbers (judging f) ≡ shown_of 0 0 0
unfolding numbers
shows_passing f z r = ap numbers (passing f z r)
