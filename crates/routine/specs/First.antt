-- The first number that fails a test, and the test of every number in a range.
use Rattle.std.specs.Prelude.{◌≡◌, Bool, true, false, cond, eqb, Option, Some, None, is_some, not, MatchOption}
use Rattle.std.proofs.Math.Path.{sym}
use Rattle.std.proofs.Common.{ap, ◌∙◌}
use Prim.Native.Nat.{ℕ, zero, suc, ◌+◌, ◌-◌, ◌≤◌, ◌<◌}
use native.Mathlib.Omega.{arith}
use Rattle.std.proofs.Math.Decide.{ℕ_discrete, dec_le}
use borrow.Author.Tests.{eqb-true, eqb-false, eq-eqb, ne_eqb, not-true, not-false}
use Rattle.routine.specs.Test.{clash, by_test, and, both, and_skip, and_stop}

-- the first of the m numbers from i on that fails, or i + m
unfoldable pub first : (ℕ → Bool) → ℕ → ℕ → ℕ
first good i zero = i
first good i (suc m) = cond (good i) (first good (i + 1) m) i

-- the first number from i on, below e, that fails, or e
abbrev pub first_in : (ℕ → Bool) → ℕ → ℕ → ℕ
first_in good i e = first good i (e - i)

-- every number from i on, below e, passes
unfoldable pub every : (ℕ → Bool) → ℕ → ℕ → Bool
every good i e = eqb (first_in good i e) e

-- i is the first of the numbers below n that fails, or there is none
abbrev pub IsFirstBad : (ℕ → Bool) → ℕ → Option ℕ → Type 0
IsFirstBad good n r = MatchOption r ((k : ℕ) → k < n → good k ≡ true) (λ i. (i < n) × (good i ≡ false) × ((k : ℕ) → k < i → good k ≡ true))

-- ---- laws

module _ (good : ℕ → Bool) where
  one_on : (i m : ℕ) → good i ≡ true → first good i (suc m) ≡ first good (i + 1) m
  unfolding first
  one_on i m g = rw g

  at_once : (i m : ℕ) → good i ≡ false → first good i (suc m) ≡ i
  unfolding first
  at_once i m g = rw g

  pub first_more : (i e : ℕ) → i < e → good i ≡ true → first_in good i e ≡ first_in good (i + 1) e
  first_more i e l g = let s : e - i ≡ suc (e - (i + 1)) = omega arith in rw s (one_on i (e - (i + 1)) g)

  pub first_here : (i e : ℕ) → i < e → good i ≡ false → first_in good i e ≡ i
  first_here i e l g = let s : e - i ≡ suc (e - (i + 1)) = omega arith in rw s (at_once i (e - (i + 1)) g)

  pub first_end : (i e : ℕ) → e ≤ i → first_in good i e ≡ i
  unfolding first
  first_end i e l = let s : e - i ≡ 0 = omega arith in rw s

  bounds : (i m : ℕ) → (i ≤ first good i m) × (first good i m ≤ i + m)
  unfolding first
  bounds i zero = (omega arith, omega arith)
  bounds i (suc m) =
      by_test (good i) (λ g. let b = bounds (i + 1) m in rw (one_on i m g) (omega arith, omega arith))
      (λ g. rw (at_once i m g) (omega arith, omega arith))

  before : (i m j : ℕ) → i ≤ j → j < first good i m → good j ≡ true
  unfolding first
  before i zero j l h = absurd (omega arith)
  before i (suc m) j l h =
      by_test (good i)
      (λ g. elim (ℕ_discrete j i) [
        | yes z ↦ rw z g
        | no nz ↦ before (i + 1) m j (omega arith) (rw (one_on i m g) at h)
      ])
      (λ g. absurd (omega (arith, at_once i m g)))

  fails : (i m : ℕ) → first good i m < i + m → good (first good i m) ≡ false
  unfolding first
  fails i zero h = absurd (omega arith)
  fails i (suc m) h =
      by_test (good i) (λ g. rw (one_on i m g) (fails (i + 1) m (omega (arith, one_on i m g))))
      (λ g. rw (at_once i m g) g)

  pub first_low : (i e : ℕ) → i ≤ first_in good i e
  first_low i e = (bounds i (e - i)).0

  pub first_high : (i e : ℕ) → i ≤ e → first_in good i e ≤ e
  first_high i e l = omega (arith, bounds i (e - i))

  pub first_before : (i e j : ℕ) → i ≤ j → j < first_in good i e → good j ≡ true
  first_before i e j l h = before i (e - i) j l h

  pub first_fails : (i e : ℕ) → first_in good i e < e → good (first_in good i e) ≡ false
  first_fails i e h = fails i (e - i) (omega (arith, bounds i (e - i)))

  -- the first that fails is the only one that fails with all before it passing
  pub first_is : (i e j : ℕ) → i ≤ j → j ≤ e → ((k : ℕ) → i ≤ k → k < j → good k ≡ true) → (j < e → good j ≡ false) → first_in good i e ≡ j
  first_is i e j l h p f =
      elim (dec_le j (first_in good i e)) [
        | yes u ↦ elim (dec_le (first_in good i e) j) [
          | yes v ↦ omega arith
          | no v ↦ absurd (clash (first_before i e j l (omega arith)) (f (omega (arith, first_high i e (omega arith)))))
        ]
        | no u ↦ absurd (clash (p (first_in good i e) (first_low i e) (omega arith)) (first_fails i e (omega arith)))
      ]

  pub every_at : (i e : ℕ) → every good i e ≡ true → (j : ℕ) → i ≤ j → j < e → good j ≡ true
  unfolding every
  every_at i e t j l h = first_before i e j l (omega (arith, eqb-true (first_in good i e) e t))

  pub every_is : (i e : ℕ) → i ≤ e → ((j : ℕ) → i ≤ j → j < e → good j ≡ true) → every good i e ≡ true
  unfolding every
  every_is i e l f = eq-eqb _ _ (first_is i e e l (omega arith) f (λ h. absurd (omega arith)))

  -- where not every number passes, the first that fails stands in the range
  pub every_not : (i e : ℕ) → i ≤ e → every good i e ≡ false → first_in good i e < e
  unfolding every
  every_not i e l t = let ne : first_in good i e ≡ e → ⊥ = eqb-false _ _ t in let hi = first_high i e l in omega arith

  -- one that fails is enough
  pub one_fails : (i e j : ℕ) → i ≤ j → j < e → good j ≡ false → every good i e ≡ false
  one_fails i e j a b f = by_test (every good i e) (λ t. absurd (clash (every_at i e t j a b) f)) (λ t. t)

  -- one number more
  pub every_more : (i e : ℕ) → i ≤ e → every good i (e + 1) ≡ and (every good i e) (good e)
  every_more i e l =
      by_test (every good i e)
      (λ t. by_test (good e)
      (λ g. every_is i (e + 1) (omega arith) (with_last i e t g) ∙ sym (both t g))
      (λ g. one_fails i (e + 1) e l (omega arith) g ∙ sym (and_skip _ (good e) t ∙ g)))
      (λ t. by_test (every good i (e + 1))
      (λ u. absurd (clash (every_is i e l (λ j a b. every_at i (e + 1) u j a (omega arith))) t))
      (λ u. u ∙ sym (and_stop _ (good e) t)))
    where
      with_last : (i e : ℕ) → every good i e ≡ true → good e ≡ true → (j : ℕ) → i ≤ j → j < e + 1 → good j ≡ true
      with_last i e t g j a b = elim (ℕ_discrete j e) [ yes z ↦ rw z g | no nz ↦ every_at i e t j a (omega arith) ]

  -- what is found tells whether every number passes
  pub none_found : (n : ℕ) (r : Option ℕ) (b : Bool) → IsFirstBad good n r → is_some r ≡ not b → b ≡ every good 0 n
  none_found n None b f e = not-false b (sym e) ∙ sym (every_is 0 n (omega arith) (λ k _ h. f k h))
  none_found n (Some i) b f e = not-true b (sym e) ∙ sym (one_fails 0 n i (omega arith) f.0 f.1)

  -- a walk that started at i and has come to j: it stops at j, or is past the last number
  pub walk_stops : (i j e : ℕ) → first_in good j e ≡ first_in good i e → j < e → good j ≡ false → every good i e ≡ false
  unfolding every
  walk_stops i j e w h f =
      let s : first_in good i e ≡ j = sym w ∙ first_here j e h f in
      rw s (ne_eqb j e (λ z. omega arith))

  pub walk_ends : (i j e : ℕ) → first_in good j e ≡ first_in good i e → j ≡ e → every good i e ≡ true
  unfolding every
  walk_ends i j e w z = eq-eqb _ _ (sym w ∙ first_end j e (omega arith) ∙ z)

-- two tests that agree in the range have the same first number that fails
pub first_same : (g h : ℕ → Bool) (i e : ℕ) → i ≤ e → ((j : ℕ) → i ≤ j → j < e → g j ≡ h j) → first_in g i e ≡ first_in h i e
first_same g h i e l s =
    first_is g i e (first_in h i e) (first_low h i e) (first_high h i e l)
    (λ k a b. s k a (omega (arith, first_high h i e l)) ∙ first_before h i e k a b)
    (λ b. s (first_in h i e) (first_low h i e) b ∙ first_fails h i e b)

pub every_same : (g h : ℕ → Bool) (i e : ℕ) → i ≤ e → ((j : ℕ) → i ≤ j → j < e → g j ≡ h j) → every g i e ≡ every h i e
unfolding every
every_same g h i e l s = ap (λ x. eqb x e) (first_same g h i e l s)
