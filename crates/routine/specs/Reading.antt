-- Which file is refused, and where: numbers 1, 2 and 3.
use Rattle.std.specs.Prelude.{Bool, not, List, [], ◌∷◌, ℕ, ◌+◌, ◌*◌, ◌%◌, eqb, leb, length, Option, Result}
use Rattle.routine.specs.declared.set.Set.{Set}
use Rattle.routine.specs.declared.refusal.Refusal.{Refusal}
use Rattle.routine.specs.declared.refusal.Refusal.TheVariants.{Length, Check, Fields}
use Rattle.routine.specs.Test.{and, within}
use Rattle.routine.specs.First.{first_in}
use Rattle.routine.specs.Limits.{most_processes, block_bytes, set_of}
use Rattle.routine.specs.Block.{block, check_right, fields_right}
use Rattle.routine.specs.Routines.{routines}
use Rattle.routine.specs.Refusal.{given, first_due, unless}

-- 1: "file length is 0, above 4,096 or no multiple of 512"
unfoldable pub length_good : ℕ → Bool
length_good l = and (within 1 (most_processes * block_bytes) l) (eqb (l % block_bytes) 0)

-- 2: "some block's check is wrong"
unfoldable pub check_good : List ℕ → ℕ → Bool
check_good f p = check_right (block f p)

-- 3: "some block breaks a field rule above"
unfoldable pub fields_good : List ℕ → ℕ → Bool
fields_good f p = fields_right (routines f).N (routines f).B p (block f p)

-- the first of the N blocks that fails, or N + 1
unfoldable pub first_block : (ℕ → Bool) → ℕ → ℕ
first_block good n = first_in good 1 (n + 1)

-- a refusal that is due where some of the N blocks fails, and shows the first such
unfoldable pub for_block : (ℕ → Bool) → ℕ → (ℕ → Refusal) → Option Refusal
for_block good n refusal = given (leb (first_block good n) n) (refusal (first_block good n))

-- "Order: 1, 2, 3": all checks come before any field
unfoldable pub file_refusals : List ℕ → List (Option Refusal)
file_refusals f =
    given (not (length_good (length f))) Length
    ∷ for_block (check_good f) (routines f).N Check
    ∷ for_block (fields_good f) (routines f).N Fields
    ∷ []

unfoldable pub file_refusal : List ℕ → Option Refusal
file_refusal f = first_due (file_refusals f)

-- what the reader answers
unfoldable pub reading : List ℕ → Result Set Refusal
reading f = unless (file_refusal f) (set_of (routines f).N (routines f).B)
