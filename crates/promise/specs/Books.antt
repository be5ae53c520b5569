-- The books: each completed call pays for the moves that it makes or causes.
use Rattle.std.specs.Prelude.{cond, List, [], ◌∷◌, ℕ, ◌+◌, ◌-◌, ◌*◌, ◌≤◌, get_or}
use Rattle.routine.specs.Sum.{sum_below, sum}
use Rattle.routine.specs.Routines.{Routines}
use Rattle.routine.specs.Judging.{is_take}
use Rattle.rules.specs.Table.{call, phase, wake}

-- what a call is worth, with n processes: a take its own four moves; a release its own two, and five for each other process that it may wake
unfoldable pub worth : ℕ → ℕ → ℕ
worth n kind = cond (is_take kind) 4 (5 * n - 3)

-- the worth of the first k calls of routine p
unfoldable pub worth_in : Routines → ℕ → ℕ → ℕ
worth_in S p k = sum_below k (λ j. worth S.N (S.kind p j))

-- the moves made within the current call, by phase 0 to 6
unfoldable pub progress : ℕ → ℕ
progress ph = get_or (0 ∷ 1 ∷ 2 ∷ 3 ∷ 3 ∷ 4 ∷ 1 ∷ []) ph 0

-- what process p has paid: the worth of its completed calls, and its progress in the current one
unfoldable pub paid : Routines → List ℕ → ℕ → ℕ
paid S t p = worth_in S p (call t p) + progress (phase t p)

-- m moves, and five more for each process that a notify has woken, are paid for
pub record Balanced (S : Routines) (t : List ℕ) (m : ℕ) : Type 0 where
  pub balance : m + 5 * sum S.N (wake t) ≤ sum S.N (paid S t)
