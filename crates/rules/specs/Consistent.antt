-- When a table is consistent with a file: one definition for each sentence of "Consistent means all of these".
use Rattle.std.specs.Prelude.{Bool, true, cond, not, ◌||◌, List, ℕ, ◌+◌, eqb, leb}
use Rattle.std.specs.Bool.{beq}
use Rattle.routine.specs.Test.{and, implies, within}
use Rattle.routine.specs.First.{every}
use Rattle.routine.specs.Sum.{sum}
use Rattle.routine.specs.Limits.{most_processes, most_bases}
use Rattle.routine.specs.Routines.{Routines, kind_now, base_now, modlock, readlock, unlock, decrease, modifies, reads, fine, hold}
use Rattle.rules.specs.Table.{lock, nomore, count, call, phase, wake, entry}

-- the mark that the completed calls alone leave on the base of the current call
unfoldable pub mark_now : Routines → ℕ → ℕ → ℕ
mark_now S p k = hold S p k (base_now S p k)

-- the calls whose effect on what p holds is there: those completed, and in phases 3 and 6 the current one too
unfoldable pub effective : ℕ → ℕ → ℕ
effective k ph = cond (eqb ph 3 || eqb ph 6) (k + 1) k

-- "What p holds follows from its completed calls, plus the current base in phase 3, less the current base in phase 6"
unfoldable pub held : Routines → List ℕ → ℕ → ℕ → ℕ
held S t p b = hold S p (effective (call t p) (phase t p)) b

-- ---- a process

-- "CALL is at most n, and n only in phase 0"
unfoldable pub call_fits : ℕ → ℕ → ℕ → Bool
call_fits n k ph = and (leb k n) (implies (eqb k n) (eqb ph 0))

-- "No completed call was a logic error in its turn"
unfoldable pub completed_fine : Routines → ℕ → ℕ → Bool
completed_fine S p k = every (λ j. fine (S.kind p j) (hold S p j (S.base p j))) 0 k

-- "Phases 1 to 5 stand at a modlock or readlock, 4 at a modlock only, 6 at an unlock or decrease, none of them at a logic error; phase 7 stands at a logic error"
unfoldable pub stands_well : ℕ → ℕ → ℕ → Bool
stands_well ph kind old =
    cond (eqb ph 0) true
    (cond (eqb ph 4) (and (eqb kind modlock) (fine kind old))
    (cond (leb ph 5) (and (within modlock readlock kind) (fine kind old))
    (cond (eqb ph 6) (and (within unlock decrease kind) (fine kind old))
    (and (within modlock decrease kind) (not (fine kind old))))))

-- the marks that each phase allows, as pairs of WAKE and ENTRY: "in phases 2 to 5 exactly one of WAKE and ENTRY is 1; in the others both are 0"
unfoldable pub marks_allowed : ℕ → ℕ → ℕ → Bool
marks_allowed ph w e = cond (within 2 5 ph) (and (within 0 1 w) (eqb (w + e) 1)) (and (eqb w 0) (eqb e 0))

unfoldable pub process_fits : Routines → List ℕ → ℕ → Bool
process_fits S t p =
    -- "PHASE is 0 to 7"
    and (leb (phase t p) 7)
    (and (call_fits (S.calls p) (call t p) (phase t p))
    (and (completed_fine S p (call t p))
    (and (stands_well (phase t p) (kind_now S p (call t p)) (mark_now S p (call t p)))
    (marks_allowed (phase t p) (wake t p) (entry t p)))))

-- "words of .. processes above N are zero"
unfoldable pub process_zero : List ℕ → ℕ → Bool
process_zero t p = and (eqb (call t p) 0) (and (eqb (phase t p) 0) (and (eqb (wake t p) 0) (eqb (entry t p) 0)))

-- ---- a base

-- p modifies b, so that LOCK of b has to name it
unfoldable pub owns : Routines → List ℕ → ℕ → ℕ → Bool
owns S t b p = eqb (held S t p b) modifies

-- "LOCK of b is p exactly if p modifies b, else 0"
unfoldable pub lock_fits : Routines → List ℕ → ℕ → Bool
lock_fits S t b = and (leb (lock t b) S.N) (every (λ p. beq (eqb (lock t b) p) (owns S t b p)) 1 (S.N + 1))

-- 1 for a mark that reads
unfoldable pub one_if_reads : ℕ → ℕ
one_if_reads m = cond (eqb m reads) 1 0

-- "COUNT of b is the number of processes that read it"
unfoldable pub readers : Routines → List ℕ → ℕ → ℕ
readers S t b = sum S.N (λ p. one_if_reads (held S t p b))

unfoldable pub base_fits : Routines → List ℕ → ℕ → Bool
base_fits S t b =
    -- "NOMORE is 0 or 1"
    and (leb (nomore t b) 1)
    (and (lock_fits S t b)
    (and (eqb (count t b) (readers S t b))
    -- "LOCK and COUNT of one base are never both non-zero"
    (eqb (lock t b) 0 || eqb (count t b) 0)))

-- "words of bases above B .. are zero"
unfoldable pub base_zero : List ℕ → ℕ → Bool
base_zero t b = and (eqb (lock t b) 0) (and (eqb (nomore t b) 0) (eqb (count t b) 0))

-- ---- the table

unfoldable pub process_good : Routines → List ℕ → ℕ → Bool
process_good S t p = cond (leb p S.N) (process_fits S t p) (process_zero t p)

unfoldable pub base_good : Routines → List ℕ → ℕ → Bool
base_good S t b = cond (leb b S.B) (base_fits S t b) (base_zero t b)

unfoldable pub consistent : Routines → List ℕ → Bool
consistent S t = and (every (process_good S t) 1 (most_processes + 1)) (every (base_good S t) 1 (most_bases + 1))
