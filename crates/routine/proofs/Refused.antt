-- "Given exactly when", for numbers 1, 2 and 3: the condition holds, no earlier number is due, and the block shown is the first such.
use mathlib.Core.Path.{◌≡◌, sym, ap, subst, ◌∙◌}
use mathlib.Core.Bool.{Bool, true, false}
use mathlib.Core.List.{List}
use Prim.Native.Nat.{ℕ, ◌+◌, ◌-◌, ◌*◌, ◌%◌, ◌≤◌, ◌<◌}
use native.Mathlib.Omega.{arith}
use native.Mathlib.Decide.{dec_le}
use lib.ListN.{length}
use borrow.Author.Tests.{eqb-true, le-leb, lt-leb}
use Rattle.std.specs.Prelude.{Some, None, Ok, Err}
use Rattle.std.proofs.lemmas.Option.{same_Some}
use Rattle.routine.specs.declared.refusal.Refusal.{Refusal}
use Rattle.routine.specs.declared.refusal.Refusal.TheVariants.{Length, Check, Fields}
use Rattle.routine.specs.declared.refusal.Refusal.TheVariants as Rf
use Rattle.routine.specs.declared.set.Set.{Set}
use Rattle.routine.specs.Limits.{most_processes, block_bytes, set_of}
use Rattle.routine.specs.Test.{within, by_test, and_left, and_right, within_is}
use Rattle.routine.specs.First.{first_low, first_before, first_fails, first_is}
use Rattle.routine.specs.Refusal.{shown_of, shown, numbers, given, first_due, unless_none, unless_some, err_unless, ok_unless, some_none}
use Rattle.routine.specs.Routines.{routines}
use Rattle.routine.specs.Reading.{length_good, check_good, fields_good, first_block, for_block, file_refusals, file_refusal, reading}

-- ---- a length that is not refused

pub length_means : (l : ℕ) → length_good l ≡ true → (1 ≤ l) × (l ≤ most_processes * block_bytes) × (l % block_bytes ≡ 0)
unfolding length_good
length_means l e =
    let w = within_is 1 (most_processes * block_bytes) l (and_left _ _ e) in
    (w.0, w.1, eqb-true _ _ (and_right (within 1 (most_processes * block_bytes) l) _ e))

-- ---- the first bad block

-- block p, of n, is the first that fails
pub record FirstBad (good : ℕ → Bool) (n p : ℕ) : Type 0 where
  pub low : 1 ≤ p
  pub high : p ≤ n
  pub fails : good p ≡ false
  pub before : (q : ℕ) → 1 ≤ q → q < p → good q ≡ true

abbrev pub AllGood : (ℕ → Bool) → ℕ → Type 0
AllGood good n = (p : ℕ) → 1 ≤ p → p ≤ n → good p ≡ true

module _ (good : ℕ → Bool) (n : ℕ) where
  is_bad : first_block good n ≤ n → FirstBad good n (first_block good n)
  unfolding first_block
  is_bad h = record {
    low = first_low good 1 (n + 1);
    high = h;
    fails = first_fails good 1 (n + 1) (omega arith);
    before = λ q l b. first_before good 1 (n + 1) q l b;
  }

  bad_is : (p : ℕ) → FirstBad good n p → first_block good n ≡ p
  unfolding first_block
  bad_is p b = first_is good 1 (n + 1) p b.low (omega arith) b.before (λ h. b.fails)

  are_good : n < first_block good n → AllGood good n
  unfolding first_block
  are_good h p lo hi = first_before good 1 (n + 1) p lo (omega arith)

  good_are : AllGood good n → first_block good n ≡ n + 1
  unfolding first_block
  good_are a = first_is good 1 (n + 1) (n + 1) (omega arith) (omega arith) (λ q lo hi. a q lo (omega arith)) (λ h. absurd (omega arith))

-- the same where the blocks are counted from 0
module _ (good at : ℕ → Bool) (n : ℕ) (agree : (i : ℕ) → i < n → at i ≡ good (i + 1)) where
  from_1 : (p : ℕ) → 1 ≤ p → p ≤ n → at (p - 1) ≡ true → good p ≡ true
  from_1 p lo hi e = subst (λ q. good q ≡ true) (omega arith) (sym (agree (p - 1) (omega arith)) ∙ e)

  pub bad_from_0 : (i : ℕ) → i < n → at i ≡ false → ((k : ℕ) → k < i → at k ≡ true) → FirstBad good n (i + 1)
  bad_from_0 i h f b = record {
    low = omega arith;
    high = omega arith;
    fails = sym (agree i h) ∙ f;
    before = λ q lo hi. from_1 q lo (omega arith) (b (q - 1) (omega arith));
  }

  pub good_from_0 : ((k : ℕ) → k < n → at k ≡ true) → AllGood good n
  good_from_0 a p lo hi = from_1 p lo hi (a (p - 1) (omega arith))

-- ---- the order of the file's numbers, step by step

module _ (good : ℕ → Bool) (n : ℕ) (refusal : ℕ → Refusal) where
  some_bad : first_block good n ≤ n → for_block good n refusal ≡ Some (refusal (first_block good n))
  unfolding for_block given
  some_bad h = rw (le-leb _ _ h)

  none_bad : n < first_block good n → for_block good n refusal ≡ None
  unfolding for_block given
  none_bad h = rw (lt-leb _ _ h)

module _ (f : List ℕ) where
  pub due_1 : length_good (length f) ≡ false → file_refusal f ≡ Some Length
  unfolding file_refusal file_refusals first_due given
  due_1 e = simp e

  module _ (l : length_good (length f) ≡ true) where
    pub due_2 : first_block (check_good f) (routines f).N ≤ (routines f).N → file_refusal f ≡ Some (Check (first_block (check_good f) (routines f).N))
    unfolding file_refusal file_refusals first_due given
    due_2 h = simp (l, some_bad (check_good f) (routines f).N Check h)

    module _ (k : (routines f).N < first_block (check_good f) (routines f).N) where
      pub due_3 : first_block (fields_good f) (routines f).N ≤ (routines f).N → file_refusal f ≡ Some (Fields (first_block (fields_good f) (routines f).N))
      unfolding file_refusal file_refusals first_due given
      due_3 h = simp (l, none_bad (check_good f) (routines f).N Check k, some_bad (fields_good f) (routines f).N Fields h)

      pub due_none : (routines f).N < first_block (fields_good f) (routines f).N → file_refusal f ≡ None
      unfolding file_refusal file_refusals first_due given
      due_none h = simp (l, none_bad (check_good f) (routines f).N Check k, none_bad (fields_good f) (routines f).N Fields h)

-- ---- the four outcomes of reading, each with its reason

pub data Outcome (f : List ℕ) : Type 0 where
  bad_length : length_good (length f) ≡ false → file_refusal f ≡ Some Length → Outcome f
  bad_check : (p : ℕ) → length_good (length f) ≡ true → FirstBad (check_good f) (routines f).N p → file_refusal f ≡ Some (Check p) → Outcome f
  bad_field : (p : ℕ) → length_good (length f) ≡ true → AllGood (check_good f) (routines f).N → FirstBad (fields_good f) (routines f).N p → file_refusal f ≡ Some (Fields p) → Outcome f
  all_good : length_good (length f) ≡ true → AllGood (check_good f) (routines f).N → AllGood (fields_good f) (routines f).N → file_refusal f ≡ None → Outcome f

pub outcome : (f : List ℕ) → Outcome f
outcome f =
    let n = (routines f).N in
    by_test (length_good (length f))
    (λ l. elim (dec_le (first_block (check_good f) n) n) [
      | yes h ↦ bad_check _ l (is_bad (check_good f) n h) (due_2 f l h)
      | no h ↦ elim (dec_le (first_block (fields_good f) n) n) [
        | yes g ↦ bad_field _ l (are_good (check_good f) n (omega arith)) (is_bad (fields_good f) n g) (due_3 f l (omega arith) g)
        | no g ↦ all_good l (are_good (check_good f) n (omega arith)) (are_good (fields_good f) n (omega arith)) (due_none f l (omega arith) (omega arith))
      ]
    ])
    (λ e. bad_length e (due_1 f e))

-- ---- reading gives the refusal, or the set

module _ (f : List ℕ) where
  pub gives_refusal : (r : Refusal) → file_refusal f ≡ Some r → reading f ≡ Err r
  unfolding reading
  gives_refusal r e = unless_some _ _ r e

  pub gives_set : file_refusal f ≡ None → reading f ≡ Ok (set_of (routines f).N (routines f).B)
  unfolding reading
  gives_set e = unless_none _ _ e

  -- 1: "file length is 0, above 4,096 or no multiple of 512"
  pub gives_1 : length_good (length f) ≡ false → reading f ≡ Err Length
  gives_1 e = gives_refusal Length (due_1 f e)

  -- 2: "some block's check is wrong", no earlier number is due, and the first such is shown
  pub gives_2 : (p : ℕ) → length_good (length f) ≡ true → FirstBad (check_good f) (routines f).N p → reading f ≡ Err (Check p)
  gives_2 p l b =
      let e = bad_is (check_good f) (routines f).N p b in
      gives_refusal (Check p) (due_2 f l (omega (arith, b.high)) ∙ ap (λ q. Some (Check q)) e)

  -- 3: "some block breaks a field rule above", no earlier number is due, and the first such is shown
  pub gives_3 : (p : ℕ) → length_good (length f) ≡ true → AllGood (check_good f) (routines f).N → FirstBad (fields_good f) (routines f).N p → reading f ≡ Err (Fields p)
  gives_3 p l a b =
      let e = bad_is (fields_good f) (routines f).N p b in
      let k = good_are (check_good f) (routines f).N a in
      gives_refusal (Fields p) (due_3 f l (omega arith) (omega (arith, b.high)) ∙ ap (λ q. Some (Fields q)) e)

  -- a file in which nothing is due is good
  pub gives_good : length_good (length f) ≡ true → AllGood (check_good f) (routines f).N → AllGood (fields_good f) (routines f).N → reading f ≡ Ok (set_of (routines f).N (routines f).B)
  gives_good l a b =
      let k = good_are (check_good f) (routines f).N a in
      let g = good_are (fields_good f) (routines f).N b in
      gives_set (due_none f l (omega arith) (omega arith))

  -- ---- the numbers that are shown

  pub shows_1 : length_good (length f) ≡ false → numbers (reading f) ≡ shown_of 1 0 0
  unfolding numbers shown
  shows_1 e = ap numbers (gives_1 e)

  pub shows_2 : (p : ℕ) → length_good (length f) ≡ true → FirstBad (check_good f) (routines f).N p → numbers (reading f) ≡ shown_of 2 p 0
  unfolding numbers shown
  shows_2 p l b = ap numbers (gives_2 p l b)

  pub shows_3 : (p : ℕ) → length_good (length f) ≡ true → AllGood (check_good f) (routines f).N → FirstBad (fields_good f) (routines f).N p → numbers (reading f) ≡ shown_of 3 p 0
  unfolding numbers shown
  shows_3 p l a b = ap numbers (gives_3 p l a b)

  -- zeros of a good file
  pub shows_none : length_good (length f) ≡ true → AllGood (check_good f) (routines f).N → AllGood (fields_good f) (routines f).N → numbers (reading f) ≡ shown_of 0 0 0
  unfolding numbers
  shows_none l a b = ap numbers (gives_good l a b)

-- ---- taking an answer apart

pub refused_is : (f : List ℕ) (r : Refusal) → reading f ≡ Err r → file_refusal f ≡ Some r
unfolding reading
refused_is f r e = err_unless _ _ r e

pub good_is : (f : List ℕ) (s : Set) → reading f ≡ Ok s → (file_refusal f ≡ None) × (s ≡ set_of (routines f).N (routines f).B)
unfolding reading
good_is f s e = ok_unless _ _ s e

-- ---- and only then

-- what a refusal by the reader says of the file
pub data Why (f : List ℕ) (r : Refusal) : Type 0 where
  length_wrong : r ≡ Length → shown r ≡ shown_of 1 0 0 → length_good (length f) ≡ false → Why f r
  check_wrong : (p : ℕ) → r ≡ Check p → shown r ≡ shown_of 2 p 0 → length_good (length f) ≡ true → FirstBad (check_good f) (routines f).N p → Why f r
  field_wrong : (p : ℕ) → r ≡ Fields p → shown r ≡ shown_of 3 p 0 → length_good (length f) ≡ true → AllGood (check_good f) (routines f).N → FirstBad (fields_good f) (routines f).N p → Why f r

pub only_when : (f : List ℕ) (r : Refusal) → reading f ≡ Err r → Why f r
unfolding shown
only_when f r e = go (outcome f)
  where
    is : (s : Refusal) → file_refusal f ≡ Some s → r ≡ s
    is s z = same_Some r s (sym (refused_is f r e) ∙ z)

    go : Outcome f → Why f r
    go (bad_length l z) = length_wrong (is _ z) (ap shown (is _ z)) l
    go (bad_check p l b z) = check_wrong p (is _ z) (ap shown (is _ z)) l b
    go (bad_field p l a b z) = field_wrong p (is _ z) (ap shown (is _ z)) l a b
    go (all_good l a b z) = absurd (some_none r (sym (refused_is f r e) ∙ z))

-- no refusal shows 0
pub shows_some : (r : Refusal) → 1 ≤ (shown r).number
unfolding shown
shows_some Rf.Length = omega arith
shows_some (Rf.Check block) = omega arith
shows_some (Rf.Fields block) = omega arith
shows_some (Rf.Routine block place) = omega arith
shows_some Rf.Words = omega arith
shows_some Rf.Table = omega arith
shows_some Rf.Process = omega arith
shows_some Rf.Turns = omega arith
