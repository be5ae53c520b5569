-- What a turn looks at, at a table that was checked: the current call, and what the completed calls leave held.
use Rattle.std.proofs.Common.{◌≡◌, ◌≤◌, ◌<◌, ℕ, List, Some, None, Ok, Err, arith}
use Rattle.std.specs.Prelude.{Result, IsOkAnd}
use Rattle.routine.specs.declared.calls.Call.{Call}
use Rattle.routine.specs.Limits.{most_processes, most_calls}
use Rattle.routine.specs.Test.{clash}
use Rattle.routine.specs.Routines.{routines, kind_now, base_now}
use Rattle.routine.specs.Calls.{call_at, call_now, no_call}
use Rattle.routine.specs.Rows.{RowOf, mark_in}
use Rattle.routine.proofs.Holding as holding
use Rattle.rules.specs.Table.{call, count, words_at}
use Rattle.rules.specs.Ready.{Ready}
use Rattle.rules.specs.Turn.{next, next_at}
use Rattle.rules.proofs.Sentences.{Consistent, consistent_means}
use Rattle.rules.proofs.Bounds.{count_small, call_small}
use Rattle.rules.proofs.Moves.{finished_idle}
use Rattle.consistency.specs.Following.{following}
use Rattle.consistency.proofs.Seen.{mark_seen, all_fine, followed}

module _ {f t : List ℕ} {p : ℕ} (checked : (Ready f t) × (1 ≤ p) × (p ≤ (routines f).N)) where
  agrees : Consistent (routines f) t
  agrees = consistent_means _ _ checked.0.file checked.0.consistency

  pub few_calls : call t p ≤ most_calls
  few_calls = call_small _ checked.0.file _ agrees p checked.1 checked.2

  -- where there is no call the process has finished, and idles
  pub finished : call_at f p (call t p) ≡ None → next_at (routines f) t p ≡ None
  finished e = finished_idle _ checked.0.file _ agrees p checked.1 checked.2 (no_call _ _ _ checked.1 checked.2 (checked.0.file.few_calls p checked.1 checked.2) e)

  -- no completed call was a logic error, so that what they leave held is there
  pub follows : (r : Result (List ℕ) (List ℕ)) → r ≡ following f p (call t p) → IsOkAnd r (λ row. RowOf row (routines f) p (call t p))
  follows (Ok row) e = (followed f checked.0.file p checked.1 checked.2 (call t p) (agrees.process p checked.1 checked.2).call_low (Ok row) e).1
  follows (Err row) e = clash (all_fine _ _ p agrees checked.1 checked.2) (followed f checked.0.file p checked.1 checked.2 (call t p) (agrees.process p checked.1 checked.2).call_low (Err row) e)

  module _ (c : Call) (is : call_at f p (call t p) ≡ Some c) where
    pub now : (call t p < (routines f).calls p) × (c.kind ≡ kind_now (routines f) p (call t p)) × (c.base ≡ base_now (routines f) p (call t p))
    now = call_now _ _ _ c checked.1 checked.2 is

    stands : holding.CallNow (routines f) p (call t p)
    stands = holding.call_now _ checked.0.file _ _ checked.1 checked.2 now.0

    a_base : 1 ≤ c.base
    a_base = omega (arith, now.2, stands.base_low)

    pub few_readers : count t c.base ≤ most_processes
    few_readers = count_small _ checked.0.file _ agrees c.base a_base (omega (arith, now.2, stands.base_high))

    -- the definition's turn looks at the same
    pub looks : (row : List ℕ) → RowOf row (routines f) p (call t p) → next p c.kind (mark_in row c.base) (words_at t c.base p) ≡ next_at (routines f) t p
    unfolding next_at
    looks row r = simp (now.1, now.2, mark_seen (routines f) checked.0.file p checked.1 checked.2 row (call t p) (omega (arith, now.0)) r)
