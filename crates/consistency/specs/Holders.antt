-- The sentences about a base, in terms of rows of sixteen marks, one for each process: who holds which base in which way.
-- Where the rows are what the processes hold, these are the definitions of rules' Consistent.
use Rattle.std.specs.Prelude.{◌≡◌, Bool, true, false, cond, ◌||◌, List, [], ℕ, ◌+◌, ◌-◌, ◌≤◌, eqb, leb, length, get_or, Option, MatchOption}
use Rattle.std.specs.Bool.{beq}
use Rattle.routine.specs.Limits.{most_bases}
use Rattle.routine.specs.Test.{and}
use Rattle.routine.specs.First.{every}
use Rattle.routine.specs.Sum.{sum}
use Rattle.routine.specs.Routines.{Routines, modifies}
use Rattle.routine.specs.Rows.{RowOf, mark_in}
use Rattle.rules.specs.Table.{lock, nomore, count, call, phase}
use Rattle.rules.specs.Consistent.{effective, one_if_reads, base_zero}

-- how process p holds base b: process p's row stands at p - 1
unfoldable pub holder : List (List ℕ) → ℕ → ℕ → ℕ
holder rows p b = mark_in (get_or rows (p - 1) []) b

unfoldable pub lock_fits_in : ℕ → List (List ℕ) → ℕ → Bool
lock_fits_in l rows b = and (leb l (length rows)) (every (λ p. beq (eqb l p) (eqb (holder rows p b) modifies)) 1 (length rows + 1))

unfoldable pub readers_in : List (List ℕ) → ℕ → ℕ
readers_in rows b = sum (length rows) (λ p. one_if_reads (holder rows p b))

unfoldable pub base_fits_in : List ℕ → List (List ℕ) → ℕ → Bool
base_fits_in t rows b =
    and (leb (nomore t b) 1)
    (and (lock_fits_in (lock t b) rows b)
    (and (eqb (count t b) (readers_in rows b))
    (eqb (lock t b) 0 || eqb (count t b) 0)))

unfoldable pub base_good_in : ℕ → List ℕ → List (List ℕ) → ℕ → Bool
base_good_in bs t rows b = cond (leb b bs) (base_fits_in t rows b) (base_zero t b)

unfoldable pub bases_good_in : ℕ → List ℕ → List (List ℕ) → Bool
bases_good_in bs t rows = every (base_good_in bs t rows) 1 (most_bases + 1)

-- a row is what process p holds at table t
abbrev pub Holds : List ℕ → Routines → List ℕ → ℕ → Type 0
Holds row S t p = RowOf row S p (effective (call t p) (phase t p))

-- the answer for a process whose words pass a test or do not: of a process of the file, what it holds
abbrev pub Fitted : (Routines → List ℕ → ℕ → Bool) → Routines → List ℕ → ℕ → Option (List ℕ) → Type 0
Fitted test S t p r = MatchOption r (test S t p ≡ false) (λ row. (test S t p ≡ true) × (p ≤ S.N → Holds row S t p))

-- the rows of processes 1 to n are what they hold at table t
abbrev pub RowsOf : List (List ℕ) → Routines → List ℕ → ℕ → Type 0
RowsOf rows S t n = (p : ℕ) → 1 ≤ p → p ≤ n → Holds (get_or rows (p - 1) []) S t p
