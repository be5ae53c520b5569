-- Laws of sums over 1..n, and the search through 1..n.
use mathlib.Core.Path.{◌≡◌, refl, sym, subst}
use mathlib.Core.Logic.{◌≢◌, ◌⊎◌, inl, inr}
use Prim.Native.Nat.{ℕ, zero, suc, ◌+◌, ◌*◌, ◌≤◌}
use native.Mathlib.Omega.{arith}
use native.Mathlib.Decide.{ℕ_discrete, dec_le}
use Rattle.routine.specs.Sum.{sum_below, sum}

-- no term differs
pub sum_same : (n : ℕ) (f g : ℕ → ℕ) → ((q : ℕ) → 1 ≤ q → q ≤ n → g q ≡ f q) → sum n g ≡ sum n f
unfolding sum sum_below
sum_same zero f g h = refl
sum_same (suc n) f g h = omega (arith, sum_same n f g (λ q l u. h q l (omega arith)), h (suc n) (omega arith) (omega arith))

-- one term differs
pub sum_one : (n : ℕ) (f g : ℕ → ℕ) (p : ℕ) → 1 ≤ p → p ≤ n → ((q : ℕ) → 1 ≤ q → q ≤ n → q ≢ p → g q ≡ f q) → sum n g + f p ≡ sum n f + g p
unfolding sum sum_below
sum_one zero f g p l u h = omega arith
sum_one (suc n) f g p l u h = elim (ℕ_discrete p (suc n)) [
  | yes e ↦ rw e (omega (arith, sum_same n f g (λ q l2 u2. h q l2 (omega arith) (λ e2. omega arith))))
  | no ne ↦ omega (arith, sum_one n f g p l (omega arith) (λ q l2 u2 n2. h q l2 (omega arith) n2), h (suc n) (omega arith) (omega arith) (λ e2. ne (sym e2)))
]

-- each term may rise by one
pub sum_rise : (n : ℕ) (f g : ℕ → ℕ) → ((q : ℕ) → 1 ≤ q → q ≤ n → g q ≤ f q + 1) → sum n g ≤ sum n f + n
unfolding sum sum_below
sum_rise zero f g h = omega arith
sum_rise (suc n) f g h = omega (arith, sum_rise n f g (λ q l u. h q l (omega arith)), h (suc n) (omega arith) (omega arith))

-- each term but one may rise by one
pub sum_rise_but : (n : ℕ) (f g : ℕ → ℕ) (p : ℕ) → 1 ≤ p → p ≤ n → ((q : ℕ) → 1 ≤ q → q ≤ n → q ≢ p → g q ≤ f q + 1) → g p ≤ f p → sum n g + 1 ≤ sum n f + n
unfolding sum sum_below
sum_rise_but zero f g p l u h e = omega arith
sum_rise_but (suc n) f g p l u h e = elim (ℕ_discrete p (suc n)) [
  | yes z ↦ omega (arith, sum_rise n f g (λ q l2 u2. h q l2 (omega arith) (λ e2. omega arith)), subst (λ x. g x ≤ f x) z e)
  | no nz ↦ omega (arith, sum_rise_but n f g p l (omega arith) (λ q l2 u2 n2. h q l2 (omega arith) n2) e, h (suc n) (omega arith) (omega arith) (λ e2. nz (sym e2)))
]

-- no term rises
pub sum_le : (n : ℕ) (f g : ℕ → ℕ) → ((q : ℕ) → 1 ≤ q → q ≤ n → g q ≤ f q) → sum n g ≤ sum n f
unfolding sum sum_below
sum_le zero f g h = omega arith
sum_le (suc n) f g h = omega (arith, sum_le n f g (λ q l u. h q l (omega arith)), h (suc n) (omega arith) (omega arith))

pub sum_mul : (n k : ℕ) (f : ℕ → ℕ) → sum n (λ q. k * f q) ≡ k * sum n f
unfolding sum sum_below
sum_mul zero k f = omega arith
sum_mul (suc n) k f = omega (arith, sum_mul n k f)

pub sum_zero : (n : ℕ) (f : ℕ → ℕ) → ((q : ℕ) → 1 ≤ q → q ≤ n → f q ≡ 0) → sum n f ≡ 0
unfolding sum sum_below
sum_zero zero f h = refl
sum_zero (suc n) f h = omega (arith, sum_zero n f (λ q l u. h q l (omega arith)), h (suc n) (omega arith) (omega arith))

-- a sum of terms that are 0 or 1 is at most their number
pub sum_low : (n : ℕ) (f : ℕ → ℕ) → ((q : ℕ) → 1 ≤ q → q ≤ n → f q ≤ 1) → sum n f ≤ n
unfolding sum sum_below
sum_low zero f h = omega arith
sum_low (suc n) f h = omega (arith, sum_low n f (λ q l u. h q l (omega arith)), h (suc n) (omega arith) (omega arith))

-- a term is at most the sum
pub term_le : (n : ℕ) (f : ℕ → ℕ) (p : ℕ) → 1 ≤ p → p ≤ n → f p ≤ sum n f
unfolding sum sum_below
term_le zero f p l u = omega arith
term_le (suc n) f p l u = elim (ℕ_discrete p (suc n)) [
  | yes e ↦ rw e (omega arith)
  | no ne ↦ omega (arith, term_le n f p l (omega arith))
]

-- some q in 1..n with P q
pub record Some (n : ℕ) (P : ℕ → Type 0) : Type 0 where
  pub at : ℕ
  pub low : 1 ≤ at
  pub high : at ≤ n
  pub holds : P at

-- a sum that is not 0 has a term that is not 0
pub sum_some : (n : ℕ) (f : ℕ → ℕ) → 1 ≤ sum n f → Some n (λ q. 1 ≤ f q)
unfolding sum sum_below
sum_some zero f h = absurd (omega arith)
sum_some (suc n) f h = elim (dec_le 1 (f (suc n))) [
  | yes e ↦ record { at = suc n; low = omega arith; high = omega arith; holds = e }
  | no ne ↦ (let r : Some n (λ q. 1 ≤ f q) = sum_some n f (omega arith) in
      record { at = r.at; low = r.low; high = omega (arith, r.high); holds = r.holds })
]

-- some number of 1..n has P, or none has
pub search_all : (n : ℕ) (P : ℕ → Type 0) → ((q : ℕ) → Dec (P q)) → Some n P ⊎ ((q : ℕ) → 1 ≤ q → q ≤ n → ¬ P q)
search_all zero P d = inr (λ q l u x. omega arith)
search_all (suc n) P d = go (search_all n P d) (d (suc n))
  where
    go : Some n P ⊎ ((q : ℕ) → 1 ≤ q → q ≤ n → ¬ P q) → Dec (P (suc n)) → Some (suc n) P ⊎ ((q : ℕ) → 1 ≤ q → q ≤ suc n → ¬ P q)
    go (inl r) dd = inl (record { at = r.at; low = r.low; high = omega (arith, r.high); holds = r.holds })
    go (inr a) (yes x) = inl (record { at = suc n; low = omega arith; high = omega arith; holds = x })
    go (inr a) (no nx) = inr (λ q l u x. elim (ℕ_discrete q (suc n)) [
      | yes e ↦ nx (subst P e x)
      | no ne ↦ a q l (omega arith) x
    ])
