-- What the code finds of each base and of each row, one by one, is the test of them all and their sum.
use mathlib.Core.Path.{◌≡◌, refl, sym, subst, ap, ◌∙◌}
use mathlib.Core.Bool.{Bool, true}
use mathlib.Core.List.{List, []}
use Prim.Native.Nat.{ℕ, zero, suc, ◌+◌, ◌-◌, ◌≤◌, ◌<◌}
use native.Mathlib.Omega.{arith}
use native.Mathlib.Numerals.{add-one}
use lib.Dec.{eqb}
use lib.ListN.{length, get_or, take}
use Rattle.std.specs.Prelude.{IsTrue, ◌↔◌}
use Rattle.std.specs.List.{count_by}
use Rattle.std.proofs.Common.{take_all}
use Rattle.std.proofs.lemmas.List.Sums.{count_by_more_yes, count_by_more_no}
use Rattle.routine.specs.Test.{by_test, clash}
use Rattle.routine.specs.First.{every, every_at, every_is}
use Rattle.routine.specs.Sum.{sum, sum_below}
use Rattle.routine.specs.Routines.{reads}
use Rattle.routine.specs.Rows.{mark_in}
use Rattle.rules.specs.Consistent.{one_if_reads}
use Rattle.rules.proofs.Holding.{one_reads, none_reads}
use borrow.Author.Tests.{eqb-true, eqb-false}
use Rattle.consistency.specs.Holders.{holder, readers_in}

module _ (good : ℕ → Bool) (n : ℕ) (r : Bool) where
  from_1 : (IsTrue r ↔ ((b : ℕ) → 1 ≤ b → b < n + 1 → good b ≡ true)) → r ≡ every good 1 (n + 1)
  from_1 e =
      by_test r
      (λ t. t ∙ sym (every_is good 1 (n + 1) (omega arith) (e.0 t)))
      (λ f. by_test (every good 1 (n + 1))
      (λ t. absurd (clash (e.1 (every_at good 1 (n + 1) t)) f))
      (λ g. f ∙ sym g))

  -- the test counts from 0
  pub from_0 : (at : ℕ → Bool) → ((i : ℕ) → at i ≡ good (suc i)) → (IsTrue r ↔ ((i : ℕ) → i < n → at i ≡ true)) → r ≡ every good 1 (n + 1)
  from_0 at same e = from_1 (
    λ t b l h. subst (λ c. good c ≡ true) (omega arith) (sym (same (b - 1)) ∙ e.0 t (b - 1) (omega arith)),
    λ g. e.1 (λ i h. same i ∙ g (suc i) (omega arith) (omega arith)),
  )

-- the row at i is process suc i's
pub holder_at : (rows : List (List ℕ)) (i b : ℕ) → mark_in (get_or rows i []) b ≡ holder rows (suc i) b
unfolding holder
holder_at rows i b = ap (λ k. mark_in (get_or rows k []) b) (omega arith)

step_yes : (a c s x : ℕ) → a ≡ c + 1 → c ≡ s → x ≡ 1 → a ≡ s + x
step_yes a c s x e f g = omega arith

step_no : (a c s x : ℕ) → a ≡ c → c ≡ s → x ≡ 0 → a ≡ s + x
step_no a c s x e f g = omega arith

module _ (rows : List (List ℕ)) (b : ℕ) where
  counted_to : (n : ℕ) → n ≤ length rows → count_by (λ row. eqb (mark_in row b) reads) (take n rows) ≡ sum n (λ p. one_if_reads (holder rows p b))
  unfolding sum sum_below
  counted_to zero h = refl
  counted_to (suc n) h =
      let z = counted_to n (omega arith) in
      ap (λ k. count_by (λ row. eqb (mark_in row b) reads) (take k rows)) (sym (add-one n))
      ∙ by_test (eqb (mark_in (get_or rows n []) b) reads)
      (λ t. step_yes _ _ _ _ (count_by_more_yes (λ row. eqb (mark_in row b) reads) rows n [] (omega arith) t) z (one_reads (holder rows (suc n) b) (sym (holder_at rows n b) ∙ eqb-true _ _ t)))
      (λ f. step_no _ _ _ _ (count_by_more_no (λ row. eqb (mark_in row b) reads) rows n [] (omega arith) f) z (none_reads (holder rows (suc n) b) (λ q. eqb-false (mark_in (get_or rows n []) b) reads f (holder_at rows n b ∙ q))))

  pub counted : count_by (λ row. eqb (mark_in row b) reads) rows ≡ readers_in rows b
  unfolding readers_in
  counted = ap (count_by (λ row. eqb (mark_in row b) reads)) (sym (take_all (length rows) rows (omega arith))) ∙ counted_to (length rows) (omega arith)
