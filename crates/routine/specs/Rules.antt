-- What the reader's and the judge's good answers mean, as plain statements about the routines.
use Rattle.std.specs.Prelude.{◌≡◌, ◌≢◌, true, cond, ℕ, ◌≤◌, ◌<◌}
use Rattle.routine.specs.Limits.{most_processes, most_bases, most_calls}
use Rattle.routine.specs.Sum.{sum_below}
use Rattle.routine.specs.Test.{within}
use Rattle.routine.specs.Routines.{Routines, modlock, readlock, unlock, decrease, free, fine, hold}

-- the limits and the field rules hold: what a file that is not refused 1 to 3 says
pub record WellFormed (S : Routines) : Type 0 where
  pub some_process : 1 ≤ S.N
  pub few_processes : S.N ≤ most_processes
  pub some_base : 1 ≤ S.B
  pub few_bases : S.B ≤ most_bases
  pub few_calls : (p : ℕ) → 1 ≤ p → p ≤ S.N → S.calls p ≤ most_calls
  pub kind_low : (p k : ℕ) → 1 ≤ p → p ≤ S.N → k < S.calls p → modlock ≤ S.kind p k
  pub kind_high : (p k : ℕ) → 1 ≤ p → p ≤ S.N → k < S.calls p → S.kind p k ≤ decrease
  pub base_low : (p k : ℕ) → 1 ≤ p → p ≤ S.N → k < S.calls p → 1 ≤ S.base p k
  pub base_high : (p k : ℕ) → 1 ≤ p → p ≤ S.N → k < S.calls p → S.base p k ≤ S.B

-- the judge's rules hold: what a file that passes keeps
pub record KeepsRules (S : Routines) : Type 0 where
  -- each take has only lower bases held
  pub takes : (p k : ℕ) → 1 ≤ p → p ≤ S.N → k < S.calls p → S.kind p k ≤ readlock → (c : ℕ) → 1 ≤ c → c ≤ most_bases → hold S p k c ≢ free → c < S.base p k
  -- each release has its hold
  pub releases : (p k : ℕ) → 1 ≤ p → p ≤ S.N → k < S.calls p → unlock ≤ S.kind p k → fine (S.kind p k) (hold S p k (S.base p k)) ≡ true
  -- the end holds nothing
  pub end : (p : ℕ) → 1 ≤ p → p ≤ S.N → (c : ℕ) → 1 ≤ c → c ≤ most_bases → hold S p (S.calls p) c ≡ free

-- 1 for a modlock or readlock, and for an unlock or decrease
unfoldable pub one_if_take : ℕ → ℕ
one_if_take kind = cond (within modlock readlock kind) 1 0

unfoldable pub one_if_release : ℕ → ℕ
one_if_release kind = cond (within unlock decrease kind) 1 0

-- the takes, and the releases, among the first k calls of routine p
unfoldable pub takes_in : Routines → ℕ → ℕ → ℕ
takes_in S p k = sum_below k (λ j. one_if_take (S.kind p j))

unfoldable pub releases_in : Routines → ℕ → ℕ → ℕ
releases_in S p k = sum_below k (λ j. one_if_release (S.kind p j))
