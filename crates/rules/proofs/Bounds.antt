-- Bounds on the words of a consistent table, and what a finished process and a reader show in them.
use mathlib.Core.Path.{◌≡◌}
use mathlib.Core.List.{List}
use Prim.Native.Nat.{ℕ, ◌≤◌}
use native.Mathlib.Omega.{arith}
use native.Mathlib.Decide.{dec_le}
use Rattle.routine.specs.Limits.{most_processes, most_calls}
use Rattle.routine.specs.Routines.{Routines, reads}
use Rattle.routine.specs.Rules.{WellFormed}
use Rattle.rules.specs.Table.{count, call, phase, wake, entry}
use Rattle.rules.specs.Consistent.{held, one_if_reads, readers}
use Rattle.routine.proofs.Sums.{sum_low, term_le}
use Rattle.rules.proofs.Holding.{one_small, one_reads}
use Rattle.rules.proofs.Sentences.{Marks, Consistent, ProcessConsistent}

marks_small : (ph w e : ℕ) → Marks ph w e → (w ≤ 1) × (e ≤ 1)
marks_small ph w e m = elim (dec_le ph 1) [
  | yes h ↦ omega (arith, m.none_before h)
  | no h ↦ elim (dec_le ph 5) [ yes k ↦ omega (arith, m.one (omega arith) k) | no k ↦ omega (arith, m.none_after (omega arith)) ]
]

module _ (S : Routines) (g : WellFormed S) (t : List ℕ) (o : Consistent S t) where
  module _ (b : ℕ) (b_low : 1 ≤ b) (b_high : b ≤ S.B) where
    -- at most N readers are counted
    pub count_small : count t b ≤ most_processes
    unfolding readers
    count_small = omega (arith, (o.base b b_low b_high).count_readers, sum_low S.N (λ p. one_if_reads (held S t p b)) (λ p l h. one_small (held S t p b)), g.few_processes)

    -- a reader is counted
    pub reader_counted : (p : ℕ) → 1 ≤ p → p ≤ S.N → held S t p b ≡ reads → 1 ≤ count t b
    unfolding readers
    reader_counted p l h r = omega (arith, (o.base b b_low b_high).count_readers, term_le S.N (λ q. one_if_reads (held S t q b)) p l h, one_reads _ r)

  module _ (p : ℕ) (p_low : 1 ≤ p) (p_high : p ≤ S.N) where
    mine : ProcessConsistent S p (call t p) (phase t p) (wake t p) (entry t p)
    mine = o.process p p_low p_high

    pub call_small : call t p ≤ most_calls
    call_small = omega (arith, mine.call_low, g.few_calls p p_low p_high)

    pub wake_small : wake t p ≤ 1
    wake_small = (marks_small (phase t p) (wake t p) (entry t p) mine.marks).0

    -- a finished process stands in phase 0
    pub finished_phase : S.calls p ≤ call t p → phase t p ≡ 0
    finished_phase h = mine.end_phase (omega (arith, mine.call_low))
