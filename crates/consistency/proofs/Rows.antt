-- Where the rows are what the processes hold, the sentences about a base over the rows are those of the definitions.
use mathlib.Core.Path.{◌≡◌, ap}
use mathlib.Core.Bool.{beq}
use mathlib.Core.List.{List, []}
use Prim.Native.Nat.{ℕ, ◌+◌, ◌-◌, ◌≤◌, ◌<◌}
use native.Mathlib.Omega.{arith}
use native.Mathlib.Decide.{ℕ_discrete}
use lib.Dec.{eqb}
use lib.ListN.{length, get_or, set, take}
use Rattle.std.proofs.Common.{get_or-take}
use lib.Seq.{get_or-set_same, get_or-set_other}
use Rattle.routine.specs.Limits.{most_processes, most_bases}
use Rattle.routine.specs.First.{every, every_same}
use Rattle.routine.specs.Routines.{Routines, modifies}
use Rattle.routine.proofs.Sums.{sum_same}
use Rattle.rules.specs.Table.{lock}
use Rattle.rules.specs.Consistent.{held, owns, lock_fits, one_if_reads, readers, base_fits, base_good}
use Rattle.consistency.specs.Holders.{Holds, RowsOf, holder, lock_fits_in, readers_in, base_fits_in, base_good_in, bases_good_in}

module _ (S : Routines) (t : List ℕ) (rows : List (List ℕ)) (size : length rows ≡ S.N) (held_is : RowsOf rows S t S.N) where
  module _ (b : ℕ) (lo : 1 ≤ b) (hi : b ≤ most_bases) where
    holder_is : (p : ℕ) → 1 ≤ p → p ≤ S.N → holder rows p b ≡ held S t p b
    unfolding holder held
    holder_is p l h = (held_is p l h).at b lo hi

    lock_same : lock_fits_in (lock t b) rows b ≡ lock_fits S t b
    unfolding lock_fits_in lock_fits owns
    lock_same =
        rw size
        (simp (every_same (λ p. beq (eqb (lock t b) p) (eqb (holder rows p b) modifies)) (λ p. beq (eqb (lock t b) p) (eqb (held S t p b) modifies)) 1 (S.N + 1) (omega arith) (λ p l h. rw (holder_is p l (omega arith)))))

    readers_same : readers_in rows b ≡ readers S t b
    unfolding readers_in readers
    readers_same = rw size (sum_same S.N (λ p. one_if_reads (held S t p b)) (λ p. one_if_reads (holder rows p b)) (λ p l h. ap one_if_reads (holder_is p l h)))

    base_same : base_good_in S.B t rows b ≡ base_good S t b
    unfolding base_good_in base_good base_fits_in base_fits
    base_same = simp (lock_same, readers_same)

  pub bases_same : bases_good_in S.B t rows ≡ every (base_good S t) 1 (most_bases + 1)
  unfolding bases_good_in
  bases_same = every_same (base_good_in S.B t rows) (base_good S t) 1 (most_bases + 1) (omega arith) (λ b l h. base_same b l (omega arith))

-- ---- the rows, worked out one process after the other

abbrev pub RowsTo : List (List ℕ) → Routines → List ℕ → ℕ → Type 0
RowsTo all S t m = (p : ℕ) → 1 ≤ p → p < m → p ≤ S.N → Holds (get_or all (p - 1) []) S t p

pub rows_more : (all : List (List ℕ)) (row : List ℕ) (S : Routines) (t : List ℕ) (i : ℕ) → length all ≡ most_processes → i < most_processes → RowsTo all S t (i + 1)
    → (i + 1 ≤ S.N → Holds row S t (i + 1)) → RowsTo (set all i row) S t (i + 1 + 1)
rows_more all row S t i size hi rows new q l h n =
    elim (ℕ_discrete q (i + 1)) [
      | yes e ↦ let at : q - 1 ≡ i = omega arith in rw (at, e) (rw (get_or-set_same all i row [] (omega arith)) (new (omega arith)))
      | no ne ↦ rw (get_or-set_other all i (q - 1) row [] (λ z. ne (omega arith))) (rows q l (omega arith) n)
    ]

-- and of those, the rows of the file's processes
pub rows_done : (all : List (List ℕ)) (S : Routines) (t : List ℕ) → S.N ≤ most_processes → (m : ℕ) → most_processes < m → RowsTo all S t m → RowsOf (take S.N all) S t S.N
rows_done all S t few m last rows p lo hi = rw (get_or-take S.N all (p - 1) [] (omega arith)) (rows p lo (omega arith) hi)
