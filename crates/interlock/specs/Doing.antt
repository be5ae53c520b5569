-- What a process is doing. The standing follows: finished where every process has finished, moving where some moves, stuck otherwise.
use Rattle.std.specs.Prelude.{cond, List, ℕ, eqb}
use Rattle.routine.specs.Routines.{Routines}
use Rattle.rules.specs.Table.{phase, wake}
use Rattle.rules.specs.Standing.{finished}
use Rattle.interlock.specs.declared.stand.Doing.{Doing}
use Rattle.interlock.specs.declared.stand.Doing.TheVariants as Do

unfoldable pub doing : Routines → List ℕ → ℕ → Doing
doing S t p = cond (finished S t p) Do.Finished (cond (eqb (phase t p) 7) Do.Stopped (cond (eqb (phase t p) 5) (cond (eqb (wake t p) 1) Do.Moves Do.Waits) Do.Moves))
