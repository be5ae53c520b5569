-- What the calls of the library answer, and the table that they leave, for every file, table and process.
use Rattle.std.specs.Prelude.{◌≡◌, cond, not, List, [], ◌∷◌, ◌++◌, ℕ, eqb, length, ⊤, Option, is_none, Result}
use Rattle.routine.specs.declared.set.Set.{Set}
use Rattle.routine.specs.declared.refusal.Refusal.{Refusal}
use Rattle.routine.specs.declared.refusal.Refusal.TheVariants as Rf
use Rattle.routine.specs.Test.{within}
use Rattle.routine.specs.Limits.{table_words, set_of}
use Rattle.routine.specs.Refusal.{given, first_due, unless}
use Rattle.routine.specs.Routines.{routines}
use Rattle.routine.specs.Reading.{file_refusals}
use Rattle.rules.specs.Table.{fresh}
use Rattle.rules.specs.Consistent.{consistent}
use Rattle.rules.specs.Turn.{turned, moves}
use Rattle.rules.specs.Standing.{standing_case}
use Rattle.rules.specs.declared.Answer.{Answer}
use Rattle.rules.specs.declared.Answer.TheVariants as An
use Rattle.rules.specs.declared.Standing.{Standing}

-- ---- the numbers

-- 5: "state table is not 80 words"
unfoldable pub size_refusal : List ℕ → Option Refusal
size_refusal t = given (not (eqb (length t) table_words)) Rf.Words

-- 6: "state table is not consistent"
unfoldable pub consistency_refusal : List ℕ → List ℕ → Option Refusal
consistency_refusal f t = given (not (consistent (routines f) t)) Rf.Table

-- 7: "process number is not 1 to N"
unfoldable pub process_refusal : List ℕ → ℕ → Option Refusal
process_refusal f p = given (not (within 1 (routines f).N p)) Rf.Process

-- ---- the fresh table: "can refuse only with 5"

unfoldable pub making : List ℕ → Result ⊤ Refusal
making t = unless (size_refusal t) tt

unfoldable pub made_table : List ℕ → List ℕ
made_table t = cond (is_none (size_refusal t)) fresh t

-- ---- file and table together: "1, 2, 3, 5, 6"

unfoldable pub table_refusals : List ℕ → List ℕ → List (Option Refusal)
table_refusals f t = file_refusals f ++ (size_refusal t ∷ consistency_refusal f t ∷ [])

unfoldable pub table_refusal : List ℕ → List ℕ → Option Refusal
table_refusal f t = first_due (table_refusals f t)

-- ---- the standing: "uses 1, 2, 3, 5, 6"

unfoldable pub standing : List ℕ → List ℕ → Result Standing Refusal
standing f t = unless (table_refusal f t) (standing_case (routines f) t)

-- ---- a turn: "5, 6, 7" after the file's

unfoldable pub turn_refusal : List ℕ → List ℕ → ℕ → Option Refusal
turn_refusal f t p = first_due (table_refusals f t ++ (process_refusal f p ∷ []))

-- 5, 6 and 7 in their order, after the file's numbers
unfoldable pub after_file : List ℕ → List ℕ → ℕ → Option Refusal
after_file f t p = first_due (size_refusal t ∷ consistency_refusal f t ∷ process_refusal f p ∷ [])

-- what the file is about, or why it, the table or the process number is refused
unfoldable pub checking : List ℕ → List ℕ → ℕ → Result Set Refusal
checking f t p = unless (turn_refusal f t p) (set_of (routines f).N (routines f).B)

-- "A turn answers MOVED, or IDLE where the list says idle"
unfoldable pub turning : List ℕ → List ℕ → ℕ → Result Answer Refusal
turning f t p = unless (turn_refusal f t p) (cond (moves (routines f) t p) An.Moved An.Idle)

-- "A refused call changes nothing lent to it"
unfoldable pub turned_table : List ℕ → List ℕ → ℕ → List ℕ
turned_table f t p = cond (is_none (turn_refusal f t p)) (turned (routines f) t p) t

-- ---- what the contracts say

-- what the contract of a turn says
pub record TurnDone (f t : List ℕ) (p : ℕ) (r : Result Answer Refusal) (u : List ℕ) : Type 0 where
  pub answer : r ≡ turning f t p
  pub table : u ≡ turned_table f t p

-- what the contract of the fresh-table call says
pub record TableMade (t : List ℕ) (r : Result ⊤ Refusal) (u : List ℕ) : Type 0 where
  pub answer : r ≡ making t
  pub table : u ≡ made_table t
