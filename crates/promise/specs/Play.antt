-- A play: turns in a row, and what is counted of them.
use Rattle.std.specs.Prelude.{Bool, true, cond, List, [], ◌∷◌, ℕ, ◌+◌, ◌≤◌}
use Rattle.routine.specs.Test.{and, within}
use Rattle.routine.specs.Sum.{sum}
use Rattle.routine.specs.Routines.{Routines}
use Rattle.routine.specs.Rules.{releases_in}
use Rattle.rules.specs.Turn.{turned, moves}

-- the table after these turns
unfoldable pub play : Routines → List ℕ → List ℕ → List ℕ
play S t [] = t
play S t (p ∷ ps) = play S (turned S t p) ps

-- 1 for a turn that answers MOVED
unfoldable pub one_if_moves : Routines → List ℕ → ℕ → ℕ
one_if_moves S t p = cond (moves S t p) 1 0

-- how many of these turns answer MOVED
unfoldable pub moved_in : Routines → List ℕ → List ℕ → ℕ
moved_in S t [] = 0
moved_in S t (p ∷ ps) = one_if_moves S t p + moved_in S (turned S t p) ps

-- every turn is by a process 1 to n
pub data TurnsBy (n : ℕ) : List ℕ → Type 0 where
  no_turn : TurnsBy n []
  a_turn : {p : ℕ} {ps : List ℕ} → 1 ≤ p → p ≤ n → TurnsBy n ps → TurnsBy n (p ∷ ps)

-- the same, as a test
unfoldable pub by_processes : ℕ → List ℕ → Bool
by_processes n [] = true
by_processes n (p ∷ ps) = and (within 1 n p) (by_processes n ps)

-- R: the number of unlock and decrease calls in the file
unfoldable pub releases : Routines → ℕ
releases S = sum S.N (λ p. releases_in S p (S.calls p))
