-- "Examples on either side": those marked (P), in document 01's order, as one list.
use Rattle.std.specs.Prelude.{◌≡◌, true, List, [], ◌∷◌, ◌++◌, ℕ, replicate, Ok}
use Rattle.routine.specs.Refusal.{shown_of, numbers}
use Rattle.routine.specs.Block.{block, check}
use Rattle.routine.specs.Routines.{routines, modlock, readlock, decrease}
use Rattle.routine.specs.Reading.{length_good, reading}
use Rattle.routine.specs.Judging.{judging}
use Rattle.rules.specs.Table.{fresh}
use Rattle.rules.specs.Standing.{standing_of}
use Rattle.promise.specs.Play.{play, moved_in}
use Rattle.promise.specs.Files.{block_of, modifier_reader}

-- what an example says
pub data Example : Type 0 where
  -- the check of block p of a file
  checks : List ℕ → ℕ → ℕ → Example
  passes : List ℕ → Example
  -- the judge refuses with 4, and shows this block and this call place
  fails_at : List ℕ → ℕ → ℕ → Example
  -- the reader refuses a file of this many zeros with 1
  too_long_or_short : ℕ → Example
  length_not_refused : ℕ → Example
  -- after these turns from the fresh table, the words of the table
  leaves : List ℕ → List ℕ → List ℕ → Example
  -- after these turns from the fresh table, the standing, all of them having moved
  all_move_and_stand : List ℕ → List ℕ → ℕ → ℕ → Example

abbrev pub Holds : Example → Type 0
Holds (checks f p c) = check (block f p) ≡ c
Holds (passes f) = judging f ≡ Ok tt
Holds (fails_at f p k) = numbers (judging f) ≡ shown_of 4 p k
Holds (too_long_or_short n) = numbers (reading (replicate n 0)) ≡ shown_of 1 0 0
Holds (length_not_refused n) = length_good n ≡ true
Holds (leaves f ts t) = play (routines f) fresh ts ≡ t
Holds (all_move_and_stand f ts m s) = (moved_in (routines f) fresh ts ≡ m) × (standing_of (routines f) (play (routines f) fresh ts) ≡ s)

-- ---- the files

-- "N 1, B 1, n 0"
unfoldable pub empty : List ℕ
empty = block_of (1 ∷ 1 ∷ 0 ∷ 1 ∷ []) 8

unfoldable pub two_reads : List ℕ
two_reads = block_of (1 ∷ 1 ∷ 2 ∷ 1 ∷ readlock ∷ 1 ∷ readlock ∷ 1 ∷ []) 52

unfoldable pub downward : List ℕ
downward = block_of (1 ∷ 1 ∷ 2 ∷ 2 ∷ modlock ∷ 2 ∷ modlock ∷ 1 ∷ []) 50

unfoldable pub never_unlocked : List ℕ
never_unlocked = block_of (1 ∷ 1 ∷ 1 ∷ 1 ∷ modlock ∷ 1 ∷ []) 22

unfoldable pub wrong_release : List ℕ
wrong_release = block_of (1 ∷ 1 ∷ 2 ∷ 1 ∷ modlock ∷ 1 ∷ decrease ∷ 1 ∷ []) 61

-- "Process 1: modlock 1, modlock 2; process 2: modlock 2, modlock 1; B 2, no releases"
unfoldable pub crosswise : List ℕ
crosswise = block_of (1 ∷ 2 ∷ 2 ∷ 2 ∷ modlock ∷ 1 ∷ modlock ∷ 2 ∷ []) 54 ++ block_of (2 ∷ 2 ∷ 2 ∷ 2 ∷ modlock ∷ 2 ∷ modlock ∷ 1 ∷ []) 53

-- a table of base 1 and processes 1 and 2, zero elsewhere: LOCK NOMORE COUNT, then CALL PHASE WAKE ENTRY of each
unfoldable pub small : List ℕ → List ℕ → List ℕ → List ℕ
small base one two = base ++ (replicate 45 0 ++ (one ++ (two ++ replicate 24 0)))

-- ---- the list

unfoldable pub examples : List Example
examples =
    -- "N 1, B 1, n 0: check 8; passes; standing of the fresh table 0"
    checks empty 1 8
    ∷ passes empty
    ∷ all_move_and_stand empty [] 0 0
    -- "The two checks above": 56 and 69
    ∷ checks modifier_reader 1 56
    ∷ checks modifier_reader 2 69
    -- "Turns 1 to 6 above, word by word"
    ∷ leaves modifier_reader (1 ∷ []) (small (1 ∷ 0 ∷ 0 ∷ []) (1 ∷ 0 ∷ 0 ∷ 0 ∷ []) (0 ∷ 0 ∷ 0 ∷ 0 ∷ []))
    ∷ leaves modifier_reader (1 ∷ 2 ∷ []) (small (1 ∷ 0 ∷ 0 ∷ []) (1 ∷ 0 ∷ 0 ∷ 0 ∷ []) (0 ∷ 1 ∷ 0 ∷ 0 ∷ []))
    ∷ leaves modifier_reader (1 ∷ 2 ∷ 1 ∷ []) (small (0 ∷ 0 ∷ 0 ∷ []) (1 ∷ 6 ∷ 0 ∷ 0 ∷ []) (0 ∷ 1 ∷ 0 ∷ 0 ∷ []))
    ∷ leaves modifier_reader (1 ∷ 2 ∷ 1 ∷ 2 ∷ []) (small (0 ∷ 0 ∷ 0 ∷ []) (1 ∷ 6 ∷ 0 ∷ 0 ∷ []) (0 ∷ 2 ∷ 0 ∷ 1 ∷ []))
    ∷ leaves modifier_reader (1 ∷ 2 ∷ 1 ∷ 2 ∷ 1 ∷ []) (small (0 ∷ 0 ∷ 0 ∷ []) (2 ∷ 0 ∷ 0 ∷ 0 ∷ []) (0 ∷ 2 ∷ 1 ∷ 0 ∷ []))
    ∷ leaves modifier_reader (1 ∷ 2 ∷ 1 ∷ 2 ∷ 1 ∷ 2 ∷ []) (small (0 ∷ 0 ∷ 1 ∷ []) (2 ∷ 0 ∷ 0 ∷ 0 ∷ []) (0 ∷ 3 ∷ 1 ∷ 0 ∷ []))
    -- "File length 0, 511, 4,608: refusal 1. 4,096 is not refused for its length"
    ∷ too_long_or_short 0
    ∷ too_long_or_short 511
    ∷ too_long_or_short 4608
    ∷ length_not_refused 4096
    -- "readlock 1, readlock 1: fails at place 2. modlock 2, modlock 1: place 2. modlock 1 alone: place 2. modlock 1, decrease 1: place 2"
    ∷ fails_at two_reads 1 2
    ∷ fails_at downward 1 2
    ∷ fails_at never_unlocked 1 2
    ∷ fails_at wrong_release 1 2
    -- "Turns 1 2 1 1 1 1 2 2 2 2 all move; standing 2"
    ∷ all_move_and_stand crosswise (1 ∷ 2 ∷ 1 ∷ 1 ∷ 1 ∷ 1 ∷ 2 ∷ 2 ∷ 2 ∷ 2 ∷ []) 10 2
    ∷ []

abbrev pub AllHold : List Example → Type 0
AllHold [] = Unit
AllHold (e ∷ es) = Holds e × AllHold es
