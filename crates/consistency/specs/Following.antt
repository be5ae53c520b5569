-- The first calls of a process, followed from nothing held, for any bytes and any process and number of calls.
use Rattle.std.specs.Prelude.{◌≡◌, Bool, false, not, cond, ◌||◌, List, ℕ, zero, suc, eqb, length, replicate, Option, Some, None, Result, Ok, Err}
use Rattle.std.proofs.Common.{length-set}
use Rattle.std.proofs.lemmas.List.{length-replicate}
use Rattle.routine.specs.declared.calls.Call.{Call}
use Rattle.routine.specs.Limits.{most_bases}
use Rattle.routine.specs.Test.{and, within, by_test}
use Rattle.routine.specs.First.{first_in, every}
use Rattle.routine.specs.Routines.{free, fine}
use Rattle.routine.specs.Calls.{call_at}
use Rattle.routine.specs.Rows.{mark_in, marked_row}

-- the marks after a call, where there is one
unfoldable pub row_with : List ℕ → Option Call → List ℕ
row_with row (Some c) = marked_row row c.kind c.base
row_with row None = row

-- the marks after the first k calls
unfoldable pub row_after : List ℕ → ℕ → ℕ → List ℕ
row_after f p zero = replicate most_bases free
row_after f p (suc k) = row_with (row_after f p k) (call_at f p k)

-- there is a call, and it is no logic error where these marks are held
unfoldable pub fine_in : List ℕ → Option Call → Bool
fine_in row (Some c) = and (not (eqb c.kind 0)) (fine c.kind (mark_in row c.base))
fine_in row None = false

-- the same of the call at which process p stands when it has completed k calls
unfoldable pub fine_after : List ℕ → ℕ → ℕ → Bool
fine_after f p k = fine_in (row_after f p k) (call_at f p k)

-- the marks after the first k calls, if they are all there and fine in their turn, else those up to the first that is not
unfoldable pub following : List ℕ → ℕ → ℕ → Result (List ℕ) (List ℕ)
following f p k = cond (every (fine_after f p) 0 k) (Ok (row_after f p k)) (Err (row_after f p (first_in (fine_after f p) 0 k)))

-- the marks now, of a process in this phase of a call: in phases 3 and 6 as after the call
abbrev pub row_now : List ℕ → ℕ → Call → List ℕ
row_now row ph c = cond (eqb ph 3 || eqb ph 6) (marked_row row c.kind c.base) row

-- ---- laws

marked_size : (row : List ℕ) (kind b : ℕ) → length row ≡ most_bases → length (marked_row row kind b) ≡ most_bases
unfolding marked_row
marked_size row kind b e = by_test (within 1 most_bases b) (λ t. rw t (simp length-set e)) (λ t. rw t e)

with_size : (row : List ℕ) (c : Option Call) → length row ≡ most_bases → length (row_with row c) ≡ most_bases
unfolding row_with
with_size row (Some c) e = marked_size row c.kind c.base e
with_size row None e = e

-- a row keeps its sixteen marks
pub row_size : (f : List ℕ) (p k : ℕ) → length (row_after f p k) ≡ most_bases
unfolding row_after
row_size f p zero = length-replicate most_bases free
row_size f p (suc k) = with_size (row_after f p k) (call_at f p k) (row_size f p k)
