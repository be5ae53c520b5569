-- The lines that the playing program writes.
use Rattle.std.specs.Prelude.{◌≡◌, refl, List, [], ◌∷◌, ◌++◌, ℕ, ◌+◌, ◌≤◌, length}
use Rattle.std.proofs.Common.{arith, length-append}
use Rattle.text.specs.Digits.{spelled, decimal, decimal_long}

abbrev pub space : List ℕ
space = 32 ∷ []

-- "each line ends with one line feed"
abbrev pub line_feed : List ℕ
line_feed = 10 ∷ []

-- a number, and the space that parts it from the next field
unfoldable pub field : ℕ → List ℕ
field n = decimal n ++ space

-- a number, and the line feed that ends its line
unfoldable pub last_field : ℕ → List ℕ
last_field n = decimal n ++ line_feed

-- TURN PROC CALL PHASE DID
unfoldable pub header : List ℕ
header = 84 ∷ 85 ∷ 82 ∷ 78 ∷ 32 ∷ 80 ∷ 82 ∷ 79 ∷ 67 ∷ 32 ∷ 67 ∷ 65 ∷ 76 ∷ 76 ∷ 32 ∷ 80 ∷ 72 ∷ 65 ∷ 83 ∷ 69 ∷ 32 ∷ 68 ∷ 73 ∷ 68 ∷ 10 ∷ []

abbrev pub moved : List ℕ
moved = 77 ∷ 79 ∷ 86 ∷ 69 ∷ 68 ∷ []

abbrev pub idle : List ℕ
idle = 73 ∷ 68 ∷ 76 ∷ 69 ∷ []

abbrev pub refused : List ℕ
refused = 82 ∷ 69 ∷ 70 ∷ 85 ∷ 83 ∷ 69 ∷ 68 ∷ []

abbrev pub standing : List ℕ
standing = 83 ∷ 84 ∷ 65 ∷ 78 ∷ 68 ∷ 73 ∷ 78 ∷ 71 ∷ []

-- "turn, process, then that process's CALL and PHASE after it, then the answer"
unfoldable pub turn_line : ℕ → ℕ → ℕ → ℕ → List ℕ → List ℕ
turn_line turn process call phase word = field turn ++ field process ++ field call ++ field phase ++ word ++ line_feed

-- "`REFUSED`, number, block"
unfoldable pub refused_line : ℕ → ℕ → List ℕ
refused_line number block = refused ++ space ++ field number ++ last_field block

-- "`STANDING` with its number"
unfoldable pub standing_line : ℕ → List ℕ
standing_line s = standing ++ space ++ last_field s

-- ---- an example: the ninth line of document 01's play

ninth : turn_line 9 2 1 6 moved ≡ 57 ∷ 32 ∷ 50 ∷ 32 ∷ 49 ∷ 32 ∷ 54 ∷ 32 ∷ 77 ∷ 79 ∷ 86 ∷ 69 ∷ 68 ∷ 10 ∷ []
unfolding turn_line field decimal spelled
ninth = refl

-- ---- laws

pub field_long : (n : ℕ) → length (field n) ≡ length (decimal n) + 1
unfolding field
field_long n = length-append (decimal n) space

pub last_long : (n : ℕ) → length (last_field n) ≡ length (decimal n) + 1
unfolding last_field
last_long n = length-append (decimal n) line_feed

pub turn_long : (turn process call phase : ℕ) (word : List ℕ) → length (turn_line turn process call phase word) ≡ length (field turn) + length (field process) + length (field call) + length (field phase) + length word + 1
unfolding turn_line
turn_long turn process call phase word = simp length-append

pub refused_long : (number block : ℕ) → length (refused_line number block) ≡ 8 + length (field number) + length (last_field block)
unfolding refused_line
refused_long number block = simp length-append

pub standing_long : (s : ℕ) → length (standing_line s) ≡ 9 + length (last_field s)
unfolding standing_line
standing_long s = simp length-append

pub field_most : (n : ℕ) → length (field n) ≤ 21
field_most n = omega (arith, field_long n, decimal_long n)

pub last_most : (n : ℕ) → length (last_field n) ≤ 21
last_most n = omega (arith, last_long n, decimal_long n)
