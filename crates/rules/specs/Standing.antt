-- The standing of a table: "0, every routine finished; 1, not 0 and some process would answer MOVED; 2, neither. A stopped process is not finished."
use Rattle.std.specs.Prelude.{Bool, cond, not, List, ℕ, ◌+◌, eqb}
use Rattle.routine.specs.First.{every}
use Rattle.routine.specs.Routines.{Routines}
use Rattle.rules.specs.Table.{call}
use Rattle.rules.specs.Turn.{moves}
use Rattle.rules.specs.declared.Standing.{Standing}
use Rattle.rules.specs.declared.Standing.TheVariants as St

unfoldable pub finished : Routines → List ℕ → ℕ → Bool
finished S t p = eqb (call t p) (S.calls p)

unfoldable pub all_finished : Routines → List ℕ → Bool
all_finished S t = every (finished S t) 1 (S.N + 1)

unfoldable pub nobody_moves : Routines → List ℕ → Bool
nobody_moves S t = every (λ p. not (moves S t p)) 1 (S.N + 1)

unfoldable pub standing_case : Routines → List ℕ → Standing
standing_case S t = cond (all_finished S t) St.Finished (cond (nobody_moves S t) St.Stuck St.Moving)

-- the document's number of each standing
unfoldable pub standing_number : Standing → ℕ
standing_number St.Finished = 0
standing_number St.Moving = 1
standing_number St.Stuck = 2

unfoldable pub standing_of : Routines → List ℕ → ℕ
standing_of S t = standing_number (standing_case S t)
