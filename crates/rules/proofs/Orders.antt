-- The orders of refusals, step by step: what the calls answer from the reader's refusal on.
use mathlib.Core.Path.{◌≡◌, refl, sym, ap, ◌∙◌}
use mathlib.Core.Logic.{◌≢◌}
use mathlib.Core.Bool.{Bool, true, false, cond, not}
use mathlib.Core.List.{List, [], ◌∷◌, append_assoc}
use Prim.Native.Nat.{ℕ}
use native.Mathlib.Omega.{arith}
use lib.Dec.{eqb}
use lib.ListN.{length}
use borrow.Author.Tests.{eqb-true, eqb-false, eq-eqb, ne_eqb}
use Rattle.std.specs.Prelude.{Some, None, is_some, Ok, Err}
use Rattle.std.specs.Option.{option_or}
use Rattle.routine.specs.declared.refusal.Refusal.{Refusal}
use Rattle.routine.specs.declared.refusal.Refusal.TheVariants as Rf
use Rattle.routine.specs.declared.set.Set.{Set}
use Rattle.routine.specs.Limits.{table_words, set_of}
use Rattle.routine.specs.Test.{within, by_test, is_within}
use Rattle.routine.specs.Refusal.{given, first_due, by_due, due_given, not_given, only_due, due_append, none_due, some_due, some_none, unless_none, unless_some, err_unless, ok_unless}
use Rattle.routine.specs.Routines.{routines}
use Rattle.routine.specs.Reading.{file_refusals, file_refusal}
use Rattle.routine.proofs.Formed.{not_refused}
use Rattle.rules.specs.Consistent.{consistent}
use Rattle.rules.specs.Turn.{turned, moves}
use Rattle.rules.specs.Standing.{standing_case}
use Rattle.rules.specs.Ready.{Ready}
use Rattle.rules.specs.Answers.{after_file, size_refusal, consistency_refusal, process_refusal, table_refusals, table_refusal, checking, standing, turn_refusal, turning, turned_table}
use Rattle.rules.specs.declared.Answer.TheVariants as An

some_given : (due : Bool) (r : Refusal) → is_some (given due r) ≡ due
unfolding given
some_given true r = refl
some_given false r = refl

module _ (f t : List ℕ) (p : ℕ) where
  -- each is due where its condition holds
  pub is_5 : is_some (size_refusal t) ≡ not (eqb (length t) table_words)
  unfolding size_refusal
  is_5 = some_given _ Rf.Words

  pub is_6 : is_some (consistency_refusal f t) ≡ not (consistent (routines f) t)
  unfolding consistency_refusal
  is_6 = some_given _ Rf.Table

  pub is_7 : is_some (process_refusal f p) ≡ not (within 1 (routines f).N p)
  unfolding process_refusal
  is_7 = some_given _ Rf.Process

  pub first_5 : length t ≢ table_words → after_file f t p ≡ Some Rf.Words
  unfolding after_file first_due size_refusal given
  first_5 ne = simp (ne_eqb _ _ ne)

  module _ (l : length t ≡ table_words) where
    pub first_6 : consistent (routines f) t ≡ false → after_file f t p ≡ Some Rf.Table
    unfolding after_file first_due size_refusal consistency_refusal given
    first_6 e = simp (eq-eqb _ _ l, e)

    module _ (c : consistent (routines f) t ≡ true) where
      pub first_7 : within 1 (routines f).N p ≡ false → after_file f t p ≡ Some Rf.Process
      unfolding after_file first_due size_refusal consistency_refusal process_refusal given
      first_7 e = simp (eq-eqb _ _ l, c, e)

      pub first_none : within 1 (routines f).N p ≡ true → after_file f t p ≡ None
      unfolding after_file first_due size_refusal consistency_refusal process_refusal given
      first_none e = simp (eq-eqb _ _ l, c, e)

module _ (f t : List ℕ) where
  -- ---- the numbers of file and table, in their order

  pub due_file : (r : Refusal) → file_refusal f ≡ Some r → table_refusal f t ≡ Some r
  unfolding table_refusal table_refusals file_refusal
  due_file r e = some_due (file_refusals f) _ r e

  module _ (z : file_refusal f ≡ None) where
    then_table : table_refusal f t ≡ first_due (size_refusal t ∷ consistency_refusal f t ∷ [])
    unfolding table_refusal table_refusals file_refusal
    then_table = none_due (file_refusals f) _ z

    pub due_5 : length t ≢ table_words → table_refusal f t ≡ Some Rf.Words
    unfolding first_due size_refusal given
    due_5 ne = then_table ∙ simp (ne_eqb _ _ ne)

    module _ (l : length t ≡ table_words) where
      pub due_6 : consistent (routines f) t ≡ false → table_refusal f t ≡ Some Rf.Table
      unfolding first_due size_refusal consistency_refusal given
      due_6 e = then_table ∙ simp (eq-eqb _ _ l, e)

      pub due_none : consistent (routines f) t ≡ true → table_refusal f t ≡ None
      unfolding first_due size_refusal consistency_refusal given
      due_none e = then_table ∙ simp (eq-eqb _ _ l, e)

  -- where no number of file and table is due, a turn is ready
  pub ready : table_refusal f t ≡ None → Ready f t
  ready z =
      by_due (file_refusal f)
      (λ z0. by_test (eqb (length t) table_words)
      (λ b. let l = eqb-true (length t) table_words b in
      by_test (consistent (routines f) t)
      (λ c. record { file = (not_refused f z0).well_formed; words = l; consistency = c })
      (λ c. absurd (some_none _ (sym (due_6 z0 l c) ∙ z))))
      (λ b. absurd (some_none _ (sym (due_5 z0 (eqb-false _ _ b)) ∙ z))))
      (λ r e. absurd (some_none r (sym (due_file r e) ∙ z)))

  -- ---- the standing

  pub standing_refuses : (r : Refusal) → table_refusal f t ≡ Some r → standing f t ≡ Err r
  unfolding standing
  standing_refuses r e = unless_some _ _ r e

  pub standing_is : table_refusal f t ≡ None → standing f t ≡ Ok (standing_case (routines f) t)
  unfolding standing
  standing_is z = unless_none _ _ z

  -- ---- a turn

  module _ (p : ℕ) where
    pub due_table : (r : Refusal) → table_refusal f t ≡ Some r → turn_refusal f t p ≡ Some r
    unfolding turn_refusal table_refusal
    due_table r e = some_due (table_refusals f t) _ r e

    after_table : table_refusal f t ≡ None → turn_refusal f t p ≡ process_refusal f p
    unfolding turn_refusal table_refusal
    after_table z = none_due (table_refusals f t) _ z ∙ only_due (process_refusal f p)

    pub due_7 : table_refusal f t ≡ None → within 1 (routines f).N p ≡ false → turn_refusal f t p ≡ Some Rf.Process
    unfolding process_refusal
    due_7 z e = after_table z ∙ due_given _ _ (ap not e)

    pub due_nothing : table_refusal f t ≡ None → within 1 (routines f).N p ≡ true → turn_refusal f t p ≡ None
    unfolding process_refusal
    due_nothing z e = after_table z ∙ not_given _ _ (ap not e)

    -- the file's numbers first, then 5, 6 and 7
    pub turn_by_file : turn_refusal f t p ≡ option_or (file_refusal f) (after_file f t p)
    unfolding turn_refusal table_refusals file_refusal after_file
    turn_by_file =
        rw (append_assoc (file_refusals f) (size_refusal t ∷ consistency_refusal f t ∷ []) (process_refusal f p ∷ []))
        (due_append (file_refusals f) (size_refusal t ∷ consistency_refusal f t ∷ process_refusal f p ∷ []))

    -- where nothing is due, a turn is ready, and p is a process
    pub turn_ready : turn_refusal f t p ≡ None → (table_refusal f t ≡ None) × (within 1 (routines f).N p ≡ true)
    turn_ready z =
        by_due (table_refusal f t)
        (λ z0. by_test (within 1 (routines f).N p) (λ b. (z0, b)) (λ b. absurd (some_none _ (sym (due_7 z0 b) ∙ z))))
        (λ r e. absurd (some_none r (sym (due_table r e) ∙ z)))

    -- ---- the check of file, table and process number

    pub checking_refuses : (r : Refusal) → turn_refusal f t p ≡ Some r → checking f t p ≡ Err r
    unfolding checking
    checking_refuses r e = unless_some _ _ r e

    pub checking_passes : turn_refusal f t p ≡ None → checking f t p ≡ Ok (set_of (routines f).N (routines f).B)
    unfolding checking
    checking_passes z = unless_none _ _ z

    pub check_refused : (r : Refusal) → checking f t p ≡ Err r → turn_refusal f t p ≡ Some r
    unfolding checking
    check_refused r e = err_unless _ _ r e

    pub check_passed : (s : Set) → checking f t p ≡ Ok s → (turn_refusal f t p ≡ None) × (s ≡ set_of (routines f).N (routines f).B)
    unfolding checking
    check_passed s e = ok_unless _ _ s e

    -- ---- what a turn answers

    pub turn_refuses : (r : Refusal) → turn_refusal f t p ≡ Some r → (turning f t p ≡ Err r) × (turned_table f t p ≡ t)
    unfolding turning turned_table
    turn_refuses r e = (unless_some _ _ r e, simp e)

    pub turn_goes : turn_refusal f t p ≡ None → (turning f t p ≡ Ok (cond (moves (routines f) t p) An.Moved An.Idle)) × (turned_table f t p ≡ turned (routines f) t p)
    unfolding turning turned_table
    turn_goes z = (unless_none _ _ z, simp z)

  -- every good file has a process 1, so that number 7 is never due of it
  pub first_process : turn_refusal f t 1 ≡ table_refusal f t
  first_process =
      by_due (table_refusal f t)
      (λ z. due_nothing 1 z (is_within 1 (routines f).N 1 (omega arith) (ready z).file.some_process) ∙ sym z)
      (λ r e. due_table 1 r e ∙ sym e)
