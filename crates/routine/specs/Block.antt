-- "N blocks of 512 bytes, block p for process p": one block, by its bytes.
use Rattle.std.specs.Prelude.{Bool, cond, List, ℕ, ◌+◌, ◌-◌, ◌*◌, ◌%◌, eqb, ltb, leb, get_or, take, drop}
use Rattle.routine.specs.Test.{and, within}
use Rattle.routine.specs.First.{first_in}
use Rattle.routine.specs.Sum.{sum_below}
use Rattle.routine.specs.Limits.{most_bases, most_calls, block_bytes, head_bytes, checked_bytes}

-- block p of a file
unfoldable pub block : List ℕ → ℕ → List ℕ
block f p = take block_bytes (drop (block_bytes * (p - 1)) f)

-- byte i of a block
abbrev pub byte : List ℕ → ℕ → ℕ
byte s i = get_or s i 0

-- "the check, which is 1 plus the sum over i from 0 to 507 of (i + 1) × byte i"
unfoldable pub check : List ℕ → ℕ
check s = 1 + sum_below checked_bytes (λ i. (i + 1) * byte s i)

-- "bytes 508 to 511, low byte first: the check"
unfoldable pub check_shown : List ℕ → ℕ
check_shown s = byte s checked_bytes + 256 * (byte s (checked_bytes + 1) + 256 * (byte s (checked_bytes + 2) + 256 * byte s (checked_bytes + 3)))

unfoldable pub check_right : List ℕ → Bool
check_right s = eqb (check s) (check_shown s)

-- from byte 4, n calls of two bytes: kind (1 modlock, 2 readlock, 3 unlock, 4 decrease), then base, 1 to B
unfoldable pub call_byte_good : ℕ → ℕ → ℕ → Bool
call_byte_good b i v = cond (eqb (i % 2) 0) (within 1 4 v) (within 1 b v)

-- the field rule of byte i of block p, in a set of n processes and b bases
unfoldable pub byte_good : ℕ → ℕ → ℕ → List ℕ → ℕ → Bool
byte_good n b p s i =
    -- byte 0: p
    cond (eqb i 0) (eqb (byte s i) p)
    -- byte 1: N
    (cond (eqb i 1) (eqb (byte s i) n)
    -- byte 2: n, the number of calls, 0 to 32
    (cond (eqb i 2) (leb (byte s i) most_calls)
    -- byte 3: B, the number of bases, 1 to 16, the same in every block
    (cond (eqb i 3) (and (eqb (byte s i) b) (within 1 most_bases (byte s i)))
    -- from byte 4, n calls of two bytes
    (cond (ltb i (head_bytes + 2 * byte s 2)) (call_byte_good b i (byte s i))
    -- the rest up to byte 507: zero
    (eqb (byte s i) 0)))))

-- the first byte that breaks its field rule, or 508
unfoldable pub bad_byte : ℕ → ℕ → ℕ → List ℕ → ℕ
bad_byte n b p s = first_in (byte_good n b p s) 0 checked_bytes

unfoldable pub fields_right : ℕ → ℕ → ℕ → List ℕ → Bool
fields_right n b p s = eqb (bad_byte n b p s) checked_bytes
