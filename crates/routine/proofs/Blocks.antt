-- The blocks of a file, as a slice of arrays has them from 0, are those that the definitions count from 1.
use Rattle.std.specs.Prelude.{◌≡◌, refl, List, [], ℕ, zero, suc, ◌+◌, ◌-◌, ◌*◌, ◌/◌, ◌<◌, ◌≤◌, length, get_or, take, drop, true, false, Option, Some, None, MatchOption, HoldsAt}
use native.Mathlib.Numerals.{unary_clauses}
use Rattle.std.proofs.Common.{ap, ◌∙◌, arith, get_or-take, get_or-drop}
use Rattle.std.proofs.lemmas.List.{drop-drop}
use Rattle.std.specs.Simd.{first_chunks}
use denote.Bor.{Bor}
use Rattle.routine.specs.Calls.{calls_in}
use Rattle.routine.specs.Test.{within, by_test, within_is, is_within, above_within}
use Rattle.routine.specs.Limits.{block_bytes}
use Rattle.routine.specs.Block.{block, byte}
use Rattle.routine.specs.Routines.{routines}

chunk_at : (n k i : ℕ) (xs : List ℕ) → i < k → get_or (first_chunks n k xs) i [] ≡ take n (drop (n * i) xs)
chunk_at n zero i xs h = absurd (omega arith)
chunk_at n (suc k) zero xs h = simp unary_clauses refl
chunk_at n (suc k) (suc i) xs h =
    chunk_at n k i (drop n xs) (omega arith) ∙ ap (take n) (drop-drop (n * i) n xs ∙ ap (λ m. drop m xs) (omega arith))

pub block_is : (f : List ℕ) (i : ℕ) → i < (routines f).N → get_or (first_chunks block_bytes (length f / block_bytes) f) i [] ≡ block f (i + 1)
unfolding block routines
block_is f i h = chunk_at block_bytes (length f / block_bytes) i f h ∙ ap (λ k. take block_bytes (drop (block_bytes * k) f)) (omega arith)

-- what the slice has at p - 1 is block p, and there it has one just where p is a block's number
pub block_found : (f : List ℕ) (p i : ℕ) (r : Option (Bor (List ℕ))) → 1 ≤ p → i ≡ p - 1
    → MatchOption r (length f / block_bytes ≤ i) (λ x. (i < length f / block_bytes) × HoldsAt (λ y. x.now ≡ y) (first_chunks block_bytes (length f / block_bytes) f) i)
    → MatchOption r (within 1 (routines f).N p ≡ false) (λ b. (within 1 (routines f).N p ≡ true) × (b.now ≡ block f p))
unfolding routines
block_found f p i None lo e l = above_within 1 (length f / block_bytes) p (omega arith)
block_found f p i (Some b) lo e (h, at) = (is_within 1 (length f / block_bytes) p lo (omega arith), at [] ∙ block_is f i h ∙ ap (block f) (omega arith))

-- a block's byte is the file's at the block's start plus its place
pub byte_of : (f : List ℕ) (p i : ℕ) → i < block_bytes → byte (block f p) i ≡ get_or f (block_bytes * (p - 1) + i) 0
unfolding block
byte_of f p i h = get_or-take block_bytes (drop (block_bytes * (p - 1)) f) i 0 h ∙ get_or-drop (block_bytes * (p - 1)) f i 0

-- a file that has a call of process p has its block
pub in_file : (f : List ℕ) (p k : ℕ) → k < calls_in f p → (1 ≤ p) × (p ≤ (routines f).N) × (calls_in f p ≡ (routines f).calls p)
unfolding calls_in
in_file f p k h =
    by_test (within 1 (routines f).N p)
    (λ e. let w = within_is 1 (routines f).N p e in (w.0, w.1, rw e))
    (λ e. let z : calls_in f p ≡ 0 = rw e in absurd (omega arith))
