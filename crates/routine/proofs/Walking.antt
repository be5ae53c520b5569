-- The judge's walk over blocks and calls: what it knows where it stops, where it goes on, and where it ends.
use mathlib.Core.Path.{◌≡◌, refl, sym, ap, subst, ◌∙◌}
use mathlib.Core.Bool.{Bool, true, false, not}
use mathlib.Core.List.{List}
use Prim.Native.Nat.{ℕ, ◌+◌, ◌-◌, ◌≤◌, ◌<◌}
use native.Mathlib.Omega.{arith}
use lib.Dec.{eqb, ltb}
use borrow.Author.Tests.{eqb-true, ltb-true, eq-eqb, lt-ltb, le-ltb}
use Rattle.routine.specs.Limits.{most_bases}
use Rattle.routine.specs.Test.{implies, implied, implying, clash, by_test}
use Rattle.routine.specs.First.{first_in, every, first_more, first_here, every_at, every_is, every_same, walk_stops, walk_ends}
use Rattle.std.specs.Prelude.{Some, None, get_or, IsTrue, ◌↔◌}
use native.Mathlib.Decide.{dec_le}
use Rattle.routine.specs.declared.refusal.Refusal.TheVariants.{Routine}
use Rattle.routine.specs.Refusal.{given}
use Rattle.routine.specs.Routines.{Routines, free, hold}
use Rattle.routine.specs.Rows.{RowOf, mark_in, in_row}
use Rattle.routine.specs.Reading.{first_block}
use Rattle.routine.specs.Judging.{only_lower, call_good, nothing_held, place_good, failing_place, routine_passes, failing_block, passes, judgement}

-- a test of every base, made mark by mark
module _ (good : ℕ → Bool) (r : Bool) (fwd : r ≡ true → (i : ℕ) → i < most_bases → good (i + 1) ≡ true) (back : ((i : ℕ) → i < most_bases → good (i + 1) ≡ true) → r ≡ true) where
  from_1 : r ≡ true → (c : ℕ) → 1 ≤ c → c < most_bases + 1 → good c ≡ true
  from_1 e c lo hi = subst (λ d. good d ≡ true) (omega arith) (fwd e (c - 1) (omega arith))

  tested : r ≡ every good 1 (most_bases + 1)
  tested =
      by_test r (λ e. e ∙ sym (every_is good 1 (most_bases + 1) (omega arith) (from_1 e)))
      (λ e. by_test (every good 1 (most_bases + 1))
      (λ t. absurd (clash (back (λ i h. every_at good 1 (most_bases + 1) t (i + 1) (omega arith) (omega arith))) e))
      (λ t. e ∙ sym t))

-- what the code says of a row is what the judge says of its marks
module _ (row : List ℕ) (r : Bool) where
  mark_is : (i : ℕ) → i < most_bases → mark_in row (i + 1) ≡ get_or row i 0
  mark_is i h = in_row row (i + 1) (omega arith) (omega arith) ∙ ap (λ k. get_or row k 0) (omega arith)

  pub held_is : (IsTrue r ↔ ((i : ℕ) → i < most_bases → get_or row i 0 ≡ free)) → r ≡ nothing_held (mark_in row)
  unfolding nothing_held
  held_is e =
      tested (λ c. eqb (mark_in row c) free) r (λ t i h. eq-eqb _ _ (mark_is i h ∙ e.0 t i h))
      (λ g. e.1 (λ i h. sym (mark_is i h) ∙ eqb-true _ _ (g i h)))

  pub lower_is : (b : ℕ) → (IsTrue r ↔ ((i : ℕ) → b - 1 ≤ i → i < most_bases → get_or row i 0 ≡ free)) → r ≡ only_lower (mark_in row) b
  unfolding only_lower
  lower_is b e =
      tested (λ c. implies (not (eqb (mark_in row c) free)) (ltb c b)) r
      (λ t i h. implying _ _ (λ held. elim (dec_le (b - 1) i) [
        | yes l ↦ absurd (clash held (rw (eq-eqb _ _ (mark_is i h ∙ e.0 t i l h)) refl))
        | no l ↦ lt-ltb _ _ (omega arith)
      ]))
      (λ g. e.1 (λ i l h. by_test (eqb (mark_in row (i + 1)) free)
      (λ z. sym (mark_is i h) ∙ eqb-true _ _ z)
      (λ z. absurd (omega (arith, ltb-true _ _ (implied _ _ (g i h) (rw z refl)))))))

-- a row judges as the holding that it shows
module _ (row : List ℕ) (S : Routines) (p k : ℕ) (r : RowOf row S p k) where
  pub row_call : (kind b : ℕ) → 1 ≤ b → b ≤ most_bases → call_good (mark_in row) kind b ≡ call_good (hold S p k) kind b
  unfolding call_good only_lower
  row_call kind b lo hi =
      simp (r.at b lo hi, every_same (λ c. implies (not (eqb (mark_in row c) free)) (ltb c b)) (λ c. implies (not (eqb (hold S p k c) free)) (ltb c b)) 1 (most_bases + 1) (omega arith) (λ c l h. rw (r.at c l (omega arith))))

  pub row_end : nothing_held (mark_in row) ≡ nothing_held (hold S p k)
  unfolding nothing_held
  row_end = every_same (λ c. eqb (mark_in row c) free) (λ c. eqb (hold S p k c) free) 1 (most_bases + 1) (omega arith) (λ c l h. rw (r.at c l (omega arith)))

module _ (S : Routines) (p : ℕ) where
  pub place_call : (k : ℕ) → k < S.calls p → place_good S p k ≡ call_good (hold S p k) (S.kind p k) (S.base p k)
  unfolding place_good
  place_call k h = simp (lt-ltb k (S.calls p) h)

  pub place_end : (k : ℕ) → S.calls p ≤ k → place_good S p k ≡ nothing_held (hold S p k)
  unfolding place_good
  place_end k h = simp (le-ltb k (S.calls p) h)

  -- the walk inside routine p has come to place k, and the walk over blocks to p
  module _ (k : ℕ) (inside : first_in (place_good S p) k (S.calls p + 1) ≡ failing_place S p) (blocks : first_in (routine_passes S) p (S.N + 1) ≡ failing_block S) (last : p ≤ S.N) where
    pub stops : k ≤ S.calls p → place_good S p k ≡ false → judgement S ≡ Some (Routine p (k + 1))
    unfolding judgement given passes failing_block first_block failing_place routine_passes
    stops h f =
        let z : failing_place S p ≡ k = sym inside ∙ first_here (place_good S p) k (S.calls p + 1) (omega arith) f in
        let q : routine_passes S p ≡ false = walk_stops (place_good S p) 0 k (S.calls p + 1) inside (omega arith) f in
        let b : failing_block S ≡ p = sym blocks ∙ first_here (routine_passes S) p (S.N + 1) (omega arith) q in
        let n : passes S ≡ false = walk_stops (routine_passes S) 1 p (S.N + 1) blocks (omega arith) q in
        simp (n, b, z)

    pub goes_on : k ≡ S.calls p → place_good S p k ≡ true → first_in (routine_passes S) (p + 1) (S.N + 1) ≡ failing_block S
    unfolding failing_place routine_passes
    goes_on e g =
        let i = sym (first_more (place_good S p) k (S.calls p + 1) (omega arith) g) ∙ inside in
        sym (first_more (routine_passes S) p (S.N + 1) (omega arith) (walk_ends (place_good S p) 0 (k + 1) (S.calls p + 1) i (omega arith))) ∙ blocks

-- a walk over all blocks finds nothing
pub ends : (S : Routines) (p : ℕ) → first_in (routine_passes S) p (S.N + 1) ≡ failing_block S → p ≡ S.N + 1 → judgement S ≡ None
unfolding judgement given passes failing_block first_block
ends S p blocks e = simp (walk_ends (routine_passes S) 1 p (S.N + 1) blocks e)
