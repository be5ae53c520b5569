use borrow.Author.Tests.{le-leb, lt-leb}
use native.Mathlib.Omega.{arith}
use mathlib.Core.Path.{◌≡◌, sym}
use mathlib.Core.Bool.{Bool, true, false}
use mathlib.Core.List.{List}
use Prim.Native.Nat.{ℕ, ◌≤◌, ◌<◌}
use Rattle.std.specs.Prelude.{Option}
use Rattle.std.specs.Bool.{then_some}
use Rattle.routine.specs.Routines.{Routines}
use Rattle.rules.specs.Consistent.{process_fits, process_zero, process_good}
use Rattle.consistency.specs.Holders.{Fitted}
use Rattle.consistency.proofs.consistent.Pair.process_good.Goals as goal

module _ (S : Routines) (t : List ℕ) (p : ℕ) (r : Option (List ℕ)) where
  of_file : p ≤ S.N → Fitted process_fits S t p r → Fitted process_good S t p r
  unfolding process_good
  of_file h m = rw (le-leb p S.N h) m

  above : (b : Bool) (row : List ℕ) → S.N < p → b ≡ process_zero t p → r ≡ then_some b row → Fitted process_good S t p r
  unfolding process_good
  above true row h z e = rw (e, lt-leb p S.N h) (sym z, λ l. absurd (omega arith))
  above false row h z e = rw (e, lt-leb p S.N h) (sym z)

pub returns-then-p-processes : goal.returns-then-p-processes
returns-then-p-processes c = of_file _ _ _ _ (omega arith) c.process_fits.ensures

pub returns-else-p-processes : goal.returns-else-p-processes
returns-else-p-processes c = above _ _ _ _ _ _ (omega arith) c.process_blank.ensures c.then_some.ensures
