use mathlib.Core.Path.{◌≡◌}
use lib.ListN.{length}
use Rattle.routine.specs.Limits.{most_bases}
use Rattle.routine.specs.First.{first_in}
use Rattle.consistency.specs.Following.{row_after, fine_after}
use Rattle.consistency.proofs.held.follow.Given as goal

-- The row is that after the first j calls, and none of them failed.
abbrev pub invariant-loop-j : goal.invariant-loop-j
invariant-loop-j l = (length l.row ≡ most_bases) × (l.row ≡ row_after l.file l.p l.j) × (first_in (fine_after l.file l.p) l.j l.k ≡ first_in (fine_after l.file l.p) 0 l.k)
