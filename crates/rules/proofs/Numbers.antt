-- The numbers that an answer shows are those of the call's order of refusals, and which they are.
use mathlib.Core.Path.{◌≡◌, sym, ap, ◌∙◌}
use mathlib.Core.Logic.{◌≢◌}
use mathlib.Core.Bool.{true, false}
use mathlib.Core.List.{List}
use Prim.Native.Nat.{ℕ}
use lib.ListN.{length}
use borrow.Author.Tests.{eq-eqb, ne_eqb}
use Rattle.std.specs.Prelude.{Some, None, Ok, Err}
use Rattle.routine.specs.declared.refusal.Refusal.{Refusal}
use Rattle.routine.specs.declared.refusal.Refusal.TheVariants as Rf
use Rattle.routine.specs.Limits.{table_words}
use Rattle.routine.specs.Test.{within}
use Rattle.routine.specs.Refusal.{shown_of, shown, numbers, given, shown_first, numbers_unless, ok_unless}
use Rattle.routine.specs.Routines.{routines}
use Rattle.routine.specs.Reading.{file_refusal, reading}
use Rattle.routine.specs.Judging.{judge_refusal, judging}
use Rattle.routine.proofs.Refused.{gives_refusal}
use Rattle.rules.specs.Consistent.{consistent}
use Rattle.rules.specs.Standing.{standing_number, standing_of}
use Rattle.rules.specs.Answers.{size_refusal, table_refusal, turn_refusal, making, checking, turning, standing}
use Rattle.rules.specs.declared.Standing.{Standing}
use Rattle.rules.proofs.Orders.{due_file, due_5, due_6, due_table, due_7, due_nothing, check_refused, standing_refuses, standing_is, turn_refuses, turn_goes}

pub reading_numbers_lem : (f : List ℕ) → numbers (reading f) ≡ shown_first (file_refusal f)
unfolding reading
reading_numbers_lem f = numbers_unless (file_refusal f) _

pub verdict_numbers_lem : (f : List ℕ) → numbers (judging f) ≡ shown_first (judge_refusal f)
unfolding judging
verdict_numbers_lem f = numbers_unless (judge_refusal f) tt

pub made_numbers_lem : (t : List ℕ) → numbers (making t) ≡ shown_first (size_refusal t)
unfolding making
made_numbers_lem t = numbers_unless (size_refusal t) tt

pub standing_numbers_lem : (f t : List ℕ) → numbers (standing f t) ≡ shown_first (table_refusal f t)
unfolding standing
standing_numbers_lem f t = numbers_unless (table_refusal f t) _

pub answer_numbers_lem : (f t : List ℕ) (p : ℕ) → numbers (turning f t p) ≡ shown_first (turn_refusal f t p)
unfolding turning
answer_numbers_lem f t p = numbers_unless (turn_refusal f t p) _

-- ---- which they are

-- the fresh table's only number
pub fresh_shows_5 : (t : List ℕ) → length t ≢ table_words → numbers (making t) ≡ shown_of 5 0 0
unfolding size_refusal given shown_first shown
fresh_shows_5 t ne = made_numbers_lem t ∙ simp (ne_eqb _ _ ne)

pub fresh_shows_zeros : (t : List ℕ) → length t ≡ table_words → numbers (making t) ≡ shown_of 0 0 0
unfolding size_refusal given shown_first
fresh_shows_zeros t e = made_numbers_lem t ∙ simp (eq-eqb _ _ e)

module _ (f t : List ℕ) (p : ℕ) where
  -- standing and turn both show what file and table are refused for
  both_show : (r : Refusal) → table_refusal f t ≡ Some r → (numbers (standing f t) ≡ shown r) × (numbers (turning f t p) ≡ shown r)
  unfolding numbers
  both_show r e = (ap numbers (standing_refuses f t r e), ap numbers (turn_refuses f t p r (due_table f t p r e)).0)

  -- what the reader shows, where it refuses the file
  pub both_show_as_read : (r : Refusal) → file_refusal f ≡ Some r → (numbers (standing f t) ≡ numbers (reading f)) × (numbers (turning f t p) ≡ numbers (reading f))
  unfolding numbers
  both_show_as_read r e =
      let b = both_show r (due_file f t r e) in
      let s : numbers (reading f) ≡ shown r = ap numbers (gives_refusal f r e) in
      (b.0 ∙ sym s, b.1 ∙ sym s)

  pub shows_5 : file_refusal f ≡ None → length t ≢ table_words → (numbers (standing f t) ≡ shown_of 5 0 0) × (numbers (turning f t p) ≡ shown_of 5 0 0)
  unfolding shown
  shows_5 z ne = both_show Rf.Words (due_5 f t z ne)

  pub shows_6 : file_refusal f ≡ None → length t ≡ table_words → consistent (routines f) t ≡ false → (numbers (standing f t) ≡ shown_of 6 0 0) × (numbers (turning f t p) ≡ shown_of 6 0 0)
  unfolding shown
  shows_6 z l e = both_show Rf.Table (due_6 f t z l e)

  pub shows_7 : table_refusal f t ≡ None → within 1 (routines f).N p ≡ false → numbers (turning f t p) ≡ shown_of 7 0 0
  unfolding numbers shown
  shows_7 z e = ap numbers (turn_refuses f t p Rf.Process (due_7 f t p z e)).0

  -- zeros where none of them is due
  pub shows_zeros : table_refusal f t ≡ None → within 1 (routines f).N p ≡ true → (numbers (standing f t) ≡ shown_of 0 0 0) × (numbers (turning f t p) ≡ shown_of 0 0 0)
  unfolding numbers
  shows_zeros z e = (ap numbers (standing_is f t z), ap numbers (turn_goes f t p (due_nothing f t p z e)).0)

  -- the check before a turn shows what the turn does
  pub check_shows : (r : Refusal) → checking f t p ≡ Err r → numbers (turning f t p) ≡ numbers (checking f t p)
  unfolding numbers
  check_shows r e = ap numbers (turn_refuses f t p r (check_refused f t p r e)).0 ∙ sym (ap numbers e)

-- the number of a standing that is answered
pub standing_shows : (f t : List ℕ) (s : Standing) → standing f t ≡ Ok s → standing_number s ≡ standing_of (routines f) t
unfolding standing standing_of
standing_shows f t s e = ap standing_number (ok_unless _ _ s e).1
