-- A file that is not refused says what is well formed.
use mathlib.Core.Path.{◌≡◌, sym, ◌∙◌}
use mathlib.Core.Bool.{true}
use mathlib.Core.List.{List}
use Prim.Native.Nat.{ℕ, ◌+◌, ◌*◌, ◌%◌, ◌≤◌, ◌<◌}
use native.Mathlib.Omega.{arith}
use lib.Dec.{eqb, lit<}
use lib.ListN.{length}
use borrow.Author.Tests.{eqb-true, leb-true, eq-eqb, ne_eqb, lt-ltb}
use Rattle.std.specs.Prelude.{None}
use Rattle.routine.specs.Limits.{most_bases, most_calls, head_bytes, checked_bytes}
use Rattle.routine.specs.Test.{and_left, and_right, within_is}
use Rattle.routine.specs.First.{first_before}
use Rattle.routine.specs.Block.{block, byte, call_byte_good, byte_good, bad_byte, fields_right}
use Rattle.routine.specs.Refusal.{some_none}
use Rattle.routine.specs.Routines.{routines}
use Rattle.routine.specs.Rules.{WellFormed}
use Rattle.routine.specs.Reading.{length_good, fields_good, file_refusal}
use Rattle.routine.proofs.Refused.{AllGood, Outcome, outcome, bad_length, bad_check, bad_field, all_good, length_means}

-- the field rules, byte by byte, in a block that breaks none
module _ (n b p : ℕ) (s : List ℕ) (none_bad : (i : ℕ) → i < checked_bytes → byte_good n b p s i ≡ true) where
  few : byte s 2 ≤ most_calls
  unfolding byte_good
  few = leb-true _ _ (none_bad 2 (lit< tt))

  bases : (byte s 3 ≡ b) × (1 ≤ byte s 3) × (byte s 3 ≤ most_bases)
  unfolding byte_good
  bases =
      let e = none_bad 3 (lit< tt) in
      let w = within_is 1 most_bases (byte s 3) (and_right (eqb (byte s 3) b) _ e) in
      (eqb-true _ _ (and_left _ _ e), w.0, w.1)

  among_calls : (i : ℕ) → head_bytes ≤ i → i < head_bytes + 2 * byte s 2 → call_byte_good b i (byte s i) ≡ true
  unfolding byte_good
  among_calls i lo hi =
      simp (ne_eqb i 0 (λ z. omega arith), ne_eqb i 1 (λ z. omega arith), ne_eqb i 2 (λ z. omega arith), ne_eqb i 3 (λ z. omega arith), lt-ltb i (head_bytes + 2 * byte s 2) hi) at (none_bad i (let f = few in omega arith))

  kinds : (k : ℕ) → k < byte s 2 → (1 ≤ byte s (head_bytes + 2 * k)) × (byte s (head_bytes + 2 * k) ≤ 4)
  unfolding call_byte_good
  kinds k h =
      within_is 1 4 (byte s (head_bytes + 2 * k)) (simp (eq-eqb ((head_bytes + 2 * k) % 2) 0 (omega arith)) at (among_calls (head_bytes + 2 * k) (omega arith) (omega arith)))

  based : (k : ℕ) → k < byte s 2 → (1 ≤ byte s (head_bytes + 2 * k + 1)) × (byte s (head_bytes + 2 * k + 1) ≤ b)
  unfolding call_byte_good
  based k h =
      within_is 1 b (byte s (head_bytes + 2 * k + 1)) (simp (ne_eqb ((head_bytes + 2 * k + 1) % 2) 0 (λ z. omega arith)) at (among_calls (head_bytes + 2 * k + 1) (omega arith) (omega arith)))

module _ (f : List ℕ) (l : length_good (length f) ≡ true) (good : AllGood (fields_good f) (routines f).N) where
  none_bad : (p : ℕ) → 1 ≤ p → p ≤ (routines f).N → (i : ℕ) → i < checked_bytes → byte_good (routines f).N (routines f).B p (block f p) i ≡ true
  unfolding fields_good fields_right bad_byte
  none_bad p lo hi i h =
      first_before (byte_good (routines f).N (routines f).B p (block f p)) 0 checked_bytes i (omega arith)
      (omega (arith, eqb-true (bad_byte (routines f).N (routines f).B p (block f p)) checked_bytes (good p lo hi)))

  counted : (1 ≤ (routines f).N) × ((routines f).N ≤ 8)
  unfolding routines
  counted = let m = length_means (length f) l in omega arith

  pub formed : WellFormed (routines f)
  unfolding routines
  formed =
      let one = none_bad 1 (omega arith) counted.0 in
      let b = bases _ _ 1 (block f 1) one in
      record {
        some_process = counted.0;
        few_processes = counted.1;
        some_base = b.1;
        few_bases = b.2;
        few_calls = λ p lo hi. few _ _ p (block f p) (none_bad p lo hi);
        kind_low = λ p k lo hi h. (kinds _ _ p (block f p) (none_bad p lo hi) k h).0;
        kind_high = λ p k lo hi h. (kinds _ _ p (block f p) (none_bad p lo hi) k h).1;
        base_low = λ p k lo hi h. (based _ _ p (block f p) (none_bad p lo hi) k h).0;
        base_high = λ p k lo hi h. (based _ _ p (block f p) (none_bad p lo hi) k h).1;
      }

-- what a good answer of the reader says
pub record Read (f : List ℕ) : Type 0 where
  pub whole : length f ≡ 512 * (routines f).N
  pub well_formed : WellFormed (routines f)

whole_blocks : (f : List ℕ) → length_good (length f) ≡ true → length f ≡ 512 * (routines f).N
unfolding routines
whole_blocks f l = let m = length_means (length f) l in omega arith

pub not_refused : (f : List ℕ) → file_refusal f ≡ None → Read f
not_refused f z = go (outcome f)
  where
    go : Outcome f → Read f
    go (bad_length l e) = absurd (some_none _ (sym e ∙ z))
    go (bad_check p l b e) = absurd (some_none _ (sym e ∙ z))
    go (bad_field p l a b e) = absurd (some_none _ (sym e ∙ z))
    go (all_good l a b e) = record { whole = whole_blocks f l; well_formed = formed f l b }
