-- A turn is never the reason that a later call is refused: file and table that were in order stay so, whatever the process number.
use mathlib.Core.Path.{◌≡◌, sym, ◌∙◌}
use mathlib.Core.List.{List}
use Prim.Native.Nat.{ℕ}
use Rattle.std.specs.Prelude.{None}
use Rattle.routine.specs.declared.refusal.Refusal.TheVariants.{Process}
use Rattle.routine.specs.Test.{within, by_test, within_is}
use Rattle.routine.specs.Refusal.{by_due, some_none}
use Rattle.routine.specs.Routines.{routines}
use Rattle.routine.specs.Reading.{file_refusal}
use Rattle.rules.specs.Turn.{turned}
use Rattle.rules.specs.Answers.{table_refusal, turned_table}
use Rattle.rules.proofs.Sentences.{consistent_means}
use Rattle.rules.proofs.Orders.{due_file, due_none, due_7, due_nothing, ready, turn_refuses, turn_goes}
use Rattle.promise.proofs.ConsistencyKept.{turn_frame, turn_keeps_consistent}

-- where the file is not refused: a file refusal would be the table's too
file_free : (f t : List ℕ) → table_refusal f t ≡ None → file_refusal f ≡ None
file_free f t z = by_due (file_refusal f) (λ e. e) (λ r e. absurd (some_none r (sym (due_file f t r e) ∙ z)))

pub turn_again : (f t : List ℕ) (p : ℕ) → table_refusal f t ≡ None → table_refusal f (turned_table f t p) ≡ None
turn_again f t p z =
    let r = ready f t z in
    by_test (within 1 (routines f).N p)
    (λ e.
    let w = within_is 1 (routines f).N p e in
    let s = turn_frame (routines f) r.file t r.words (consistent_means (routines f) t r.file r.consistency) p w.0 w.1 in
    let c = turn_keeps_consistent (routines f) r.file t r.words r.consistency p w.0 w.1 in
    rw (turn_goes f t p (due_nothing f t p z e)).1 (due_none f (turned (routines f) t p) (file_free f t z) (s.size ∙ r.words) c))
    (λ e. rw (turn_refuses f t p Process (due_7 f t p z e)).1 z)
