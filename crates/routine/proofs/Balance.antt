-- In a file that keeps the rules no call is a logic error when its turn comes, and takes and releases are equal in number.
use mathlib.Core.Path.{◌≡◌, refl, sym, ap, ◌∙◌}
use mathlib.Core.Logic.{◌≢◌}
use mathlib.Core.Bool.{true}
use Prim.Native.Nat.{ℕ, zero, suc, ◌+◌, ◌≤◌, ◌<◌}
use native.Mathlib.Omega.{arith}
use native.Mathlib.Decide.{ℕ_discrete, dec_le}
use lib.Dec.{eqb}
use mathlib.Core.Bool.{cond}
use borrow.Author.Tests.{eqb-true, eq-eqb, ne_eqb}
use Rattle.routine.specs.Limits.{most_bases}
use Rattle.routine.specs.Test.{is_within, below_within, above_within}
use Rattle.routine.specs.Sum.{sum_below, sum}
use Rattle.routine.specs.Routines.{Routines, modlock, readlock, unlock, decrease, free, modifies, reads, mark, fine, hold}
use Rattle.routine.specs.Rules.{WellFormed, KeepsRules, one_if_take, one_if_release, takes_in, releases_in}
use Rattle.routine.proofs.Sums.{sum_one, sum_zero}
use Rattle.routine.proofs.Holding.{mark_modlock, mark_readlock, mark_release, fine_take, fine_unlock, fine_decrease, hold_here, hold_else}

-- 1 for a base that is held
unfoldable one_if_held : ℕ → ℕ
one_if_held m = cond (eqb m free) 0 1

held_not : (m : ℕ) → m ≡ free → one_if_held m ≡ 0
unfolding one_if_held
held_not m e = rw e

held_one : (m : ℕ) → m ≢ free → one_if_held m ≡ 1
unfolding one_if_held
held_one m ne = rw (ne_eqb m free ne)

module _ (S : Routines) (g : WellFormed S) (r : KeepsRules S) (p : ℕ) (lo : 1 ≤ p) (hi : p ≤ S.N) where
  -- a take of b is made with b free, since every base held is below b
  take_free : (k : ℕ) → k < S.calls p → S.kind p k ≤ readlock → hold S p k (S.base p k) ≡ free
  take_free k h small = elim (ℕ_discrete (hold S p k (S.base p k)) free) [
    | yes e ↦ e
    | no ne ↦ absurd (omega (arith, r.takes p k lo hi h small (S.base p k) (g.base_low p k lo hi h) (omega (arith, g.base_high p k lo hi h, g.few_bases)) ne))
  ]

  pub never_error : (k : ℕ) → k < S.calls p → fine (S.kind p k) (hold S p k (S.base p k)) ≡ true
  never_error k h = elim (dec_le (S.kind p k) readlock) [
    | yes small ↦ fine_take (S.kind p k) (hold S p k (S.base p k)) small ∙ eq-eqb _ _ (take_free k h small)
    | no big ↦ r.releases p k lo hi h (omega arith)
  ]

  -- a release is of a base that is held
  release_held : (k : ℕ) → k < S.calls p → unlock ≤ S.kind p k → hold S p k (S.base p k) ≢ free
  release_held k h big = elim (ℕ_discrete (S.kind p k) unlock) [
    | yes e ↦ (let z : hold S p k (S.base p k) ≡ modifies = eqb-true _ _ (sym (fine_unlock (S.kind p k) (hold S p k (S.base p k)) e) ∙ never_error k h) in λ y. omega arith)
    | no ne ↦ (let d : S.kind p k ≡ decrease = omega (arith, g.kind_high p k lo hi h) in
        let z : hold S p k (S.base p k) ≡ reads = eqb-true _ _ (sym (fine_decrease (S.kind p k) (hold S p k (S.base p k)) d) ∙ never_error k h) in λ y. omega arith)
  ]

  -- what a call changes of the number of bases held
  take_adds : (k : ℕ) → k < S.calls p → S.kind p k ≤ readlock → one_if_held (mark (S.kind p k) (hold S p k (S.base p k))) ≡ 1
  take_adds k h small = elim (ℕ_discrete (S.kind p k) modlock) [
    | yes e ↦ held_one _ (λ z. omega (arith, mark_modlock (S.kind p k) (hold S p k (S.base p k)) e))
    | no ne ↦ (let d : S.kind p k ≡ readlock = omega (arith, g.kind_low p k lo hi h) in held_one _ (λ z. omega (arith, mark_readlock (S.kind p k) (hold S p k (S.base p k)) d)))
  ]

  counts_take : (k : ℕ) → k < S.calls p → S.kind p k ≤ readlock → (one_if_take (S.kind p k) ≡ 1) × (one_if_release (S.kind p k) ≡ 0)
  unfolding one_if_take one_if_release
  counts_take k h small = (simp (is_within modlock readlock (S.kind p k) (g.kind_low p k lo hi h) small), simp (below_within unlock decrease (S.kind p k) (omega arith)))

  counts_release : (k : ℕ) → k < S.calls p → unlock ≤ S.kind p k → (one_if_take (S.kind p k) ≡ 0) × (one_if_release (S.kind p k) ≡ 1)
  unfolding one_if_take one_if_release
  counts_release k h big = (simp (above_within modlock readlock (S.kind p k) (omega arith)), simp (is_within unlock decrease (S.kind p k) big (g.kind_high p k lo hi h)))

  -- the bases held are the takes less the releases
  holds_count : (k : ℕ) → k ≤ S.calls p → sum most_bases (λ c. one_if_held (hold S p k c)) + releases_in S p k ≡ takes_in S p k
  unfolding takes_in releases_in sum_below
  holds_count zero h = unfold hold in omega (arith, sum_zero most_bases (λ c. one_if_held (hold S p zero c)) (λ c cl ch. held_not _ refl))
  holds_count (suc k) h =
      let b = S.base p k in
      let ih = holds_count k (omega arith) in
      let m = sum_one most_bases (λ c. one_if_held (hold S p k c)) (λ c. one_if_held (hold S p (suc k) c)) b (g.base_low p k lo hi h) (omega (arith, g.base_high p k lo hi h, g.few_bases)) (λ c cl ch ne. ap one_if_held (hold_else S p k c (λ z. ne (sym z)))) in
      let e = ap one_if_held (hold_here S p k b refl) in
      elim (dec_le (S.kind p k) readlock) [
        | yes small ↦ omega (arith, counts_take k h small, ih, m, e, held_not _ (take_free k h small), take_adds k h small)
        | no big ↦ omega (arith, counts_release k h (omega arith), ih, m, e, held_one _ (release_held k h (omega arith)), held_not _ (mark_release (S.kind p k) (hold S p k b) (omega arith)))
      ]

  pub balanced : takes_in S p (S.calls p) ≡ releases_in S p (S.calls p)
  balanced =
      omega (arith, holds_count (S.calls p) (omega arith), sum_zero most_bases (λ c. one_if_held (hold S p (S.calls p) c)) (λ c cl ch. held_not _ (r.end p lo hi c cl ch)))
