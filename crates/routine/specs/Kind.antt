-- The kinds of call as an enum, by their numbers: the kind of every call of a good file is one of these.
use Rattle.std.specs.Prelude.{ℕ}
use Rattle.routine.specs.Routines.{modlock, readlock, unlock, decrease}
use Rattle.routine.specs.declared.kind.Kind.{Kind}
use Rattle.routine.specs.declared.kind.Kind.TheVariants as Ki

unfoldable pub kind_number : Kind → ℕ
kind_number Ki.Modlock = modlock
kind_number Ki.Readlock = readlock
kind_number Ki.Unlock = unlock
kind_number Ki.Decrease = decrease
