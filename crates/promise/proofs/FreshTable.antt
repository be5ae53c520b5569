-- The fresh table: every word is 0, so it is consistent with every file.
use mathlib.Core.Path.{◌≡◌, sym, ◌∙◌}
use mathlib.Core.Bool.{true}
use mathlib.Core.List.{List}
use Prim.Native.Nat.{ℕ}
use native.Mathlib.Omega.{arith}
use native.Mathlib.Decide.{dec_le}
use lib.ListN.{length, get_or, replicate, get_or-replicate, length-replicate, get_or-eq_default}
use Rattle.routine.specs.Limits.{table_words}
use Rattle.routine.specs.Routines.{Routines, free, hold}
use Rattle.routine.proofs.Sums.{sum_zero}
use Rattle.rules.specs.Table.{lock, nomore, count, call, phase, wake, entry, fresh}
use Rattle.rules.specs.Consistent.{held, effective, readers, consistent}
use Rattle.rules.proofs.Holding.{none_reads}
use Rattle.rules.proofs.Sentences.{Consistent, means_consistent}
use Rattle.promise.proofs.Places.{stands_start}
use Rattle.promise.proofs.ConsistencyKept.{owner_modifies}

zeros_at : (n i : ℕ) → get_or {A = ℕ} (replicate n 0) i 0 ≡ 0
zeros_at n i = elim (dec_le n i) [
  | yes h ↦ get_or-eq_default (replicate n 0) 0 {n = i} (omega (arith, length-replicate {A = ℕ} n 0))
  | no h ↦ get_or-replicate n i 0 0 (omega arith)
]

zero_at : (i : ℕ) → get_or fresh i 0 ≡ 0
unfolding fresh
zero_at i = zeros_at table_words i

pub record AllZero (t : List ℕ) : Type 0 where
  pub size : length t ≡ table_words
  pub lock_zero : (b : ℕ) → lock t b ≡ 0
  pub nomore_zero : (b : ℕ) → nomore t b ≡ 0
  pub count_zero : (b : ℕ) → count t b ≡ 0
  pub call_zero : (p : ℕ) → call t p ≡ 0
  pub phase_zero : (p : ℕ) → phase t p ≡ 0
  pub wake_zero : (p : ℕ) → wake t p ≡ 0
  pub entry_zero : (p : ℕ) → entry t p ≡ 0

fresh_size : length fresh ≡ table_words
unfolding fresh
fresh_size = length-replicate {A = ℕ} table_words 0

pub fresh_zero : AllZero fresh
unfolding lock nomore count call phase wake entry
fresh_zero = record { size = fresh_size; lock_zero = λ b. zero_at _; nomore_zero = λ b. zero_at _; count_zero = λ b. zero_at _; call_zero = λ p. zero_at _; phase_zero = λ p. zero_at _; wake_zero = λ p. zero_at _; entry_zero = λ p. zero_at _ }

fresh_held : (S : Routines) (p b : ℕ) → held S fresh p b ≡ free
unfolding held effective hold
fresh_held S p b = rw (fresh_zero.call_zero p, fresh_zero.phase_zero p)

pub fresh_sentences : (S : Routines) → Consistent S fresh
unfolding readers
fresh_sentences S =
    let z = fresh_zero in
    record {
      process = λ p lo hi. record {
        phase_low = omega (arith, z.phase_zero p);
        call_low = omega (arith, z.call_zero p);
        end_phase = λ e. z.phase_zero p;
        completed_fine = λ j h. absurd (omega (arith, z.call_zero p));
        stands = stands_start (z.phase_zero p);
        marks = omega (arith, z.phase_zero p, z.wake_zero p, z.entry_zero p);
      };
      base = λ b lo hi. record {
        nomore_low = omega (arith, z.nomore_zero b);
        lock_low = omega (arith, z.lock_zero b);
        lock_owner = λ p pl ph e. absurd (omega (arith, z.lock_zero b));
        owner_lock = λ p pl ph e. absurd (omega (arith, owner_modifies S fresh b p e, fresh_held S p b));
        count_readers = z.count_zero b ∙ sym (sum_zero S.N _ (λ q ql qh. none_reads (held S fresh q b) (omega (arith, fresh_held S q b))));
        not_both = λ n. z.count_zero b;
      };
      process_above = λ p lo hi. (z.call_zero p, z.phase_zero p, z.wake_zero p, z.entry_zero p);
      base_above = λ b lo hi. (z.lock_zero b, z.nomore_zero b, z.count_zero b);
    }

-- the fresh table is consistent with every file: nobody has completed a call, so nobody holds anything
pub fresh_consistent : (S : Routines) → consistent S fresh ≡ true
fresh_consistent S = means_consistent S fresh (fresh_sentences S)
