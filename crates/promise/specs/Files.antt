-- Small routine files, by their bytes, for the plays that are shown one by one.
use Rattle.std.specs.Prelude.{List, [], ◌∷◌, ◌++◌, ℕ, ◌-◌, ◌/◌, ◌%◌, length, replicate}
use Rattle.routine.specs.Limits.{checked_bytes}
use Rattle.routine.specs.Routines.{modlock, readlock, unlock, decrease}

-- a block: its fields, zeros up to byte 507, and the check, low byte first
unfoldable pub block_of : List ℕ → ℕ → List ℕ
block_of fields check = fields ++ (replicate (checked_bytes - length fields) 0 ++ (check % 256 ∷ check / 256 ∷ 0 ∷ 0 ∷ []))

-- "process 1 modlock 1, unlock 1; process 2 readlock 1, decrease 1; B is 1. Checks 56 and 69"
unfoldable pub modifier_reader : List ℕ
modifier_reader = block_of (1 ∷ 2 ∷ 2 ∷ 1 ∷ modlock ∷ 1 ∷ unlock ∷ 1 ∷ []) 56 ++ block_of (2 ∷ 2 ∷ 2 ∷ 1 ∷ readlock ∷ 1 ∷ decrease ∷ 1 ∷ []) 69

-- processes 1 and 3 modify base 1, process 2 reads it
unfoldable pub modifiers_reader : List ℕ
modifiers_reader =
    block_of (1 ∷ 3 ∷ 2 ∷ 1 ∷ modlock ∷ 1 ∷ unlock ∷ 1 ∷ []) 58
    ++ (block_of (2 ∷ 3 ∷ 2 ∷ 1 ∷ readlock ∷ 1 ∷ decrease ∷ 1 ∷ []) 71
    ++ block_of (3 ∷ 3 ∷ 2 ∷ 1 ∷ modlock ∷ 1 ∷ unlock ∷ 1 ∷ []) 60)

-- two modifiers of base 1, and then a reader of it
unfoldable pub modifiers_then_reader : List ℕ
modifiers_then_reader =
    block_of (1 ∷ 3 ∷ 2 ∷ 1 ∷ modlock ∷ 1 ∷ unlock ∷ 1 ∷ []) 58
    ++ (block_of (2 ∷ 3 ∷ 2 ∷ 1 ∷ modlock ∷ 1 ∷ unlock ∷ 1 ∷ []) 59
    ++ block_of (3 ∷ 3 ∷ 2 ∷ 1 ∷ readlock ∷ 1 ∷ decrease ∷ 1 ∷ []) 72)

-- process 1 takes base 1 while it modifies 2, and process 2 takes base 2 while it modifies 1; between its two takes, process 1 takes base 3 and gives it up. It does not pass
unfoldable pub ring : List ℕ
ring =
    block_of (1 ∷ 2 ∷ 6 ∷ 3 ∷ modlock ∷ 2 ∷ modlock ∷ 3 ∷ unlock ∷ 3 ∷ modlock ∷ 1 ∷ unlock ∷ 1 ∷ unlock ∷ 2 ∷ []) 294
    ++ block_of (2 ∷ 2 ∷ 4 ∷ 3 ∷ modlock ∷ 1 ∷ modlock ∷ 2 ∷ unlock ∷ 2 ∷ unlock ∷ 1 ∷ []) 157
