-- Sums over a range of numbers.
use Rattle.std.specs.Prelude.{ℕ, zero, suc, ◌+◌}

-- f 0 + .. + f (n - 1)
unfoldable pub sum_below : ℕ → (ℕ → ℕ) → ℕ
sum_below zero f = 0
sum_below (suc n) f = sum_below n f + f n

-- f 1 + .. + f n
unfoldable pub sum : ℕ → (ℕ → ℕ) → ℕ
sum n f = sum_below n (λ i. f (suc i))
