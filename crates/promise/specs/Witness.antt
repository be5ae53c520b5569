-- Demand 3 is not empty: a file that passes, and a play of it in which processes wait, are woken, and all finish.
use Rattle.std.specs.Prelude.{◌≡◌, true, false, List, [], ◌∷◌, ◌++◌, ℕ, Ok}
use Rattle.routine.specs.Routines.{routines}
use Rattle.routine.specs.Judging.{judging}
use Rattle.rules.specs.Table.{nomore, phase, wake, entry, fresh}
use Rattle.rules.specs.Turn.{moves}
use Rattle.rules.specs.Standing.{standing_of}
use Rattle.promise.specs.Play.{play, moved_in, by_processes}

-- 1 takes base 1; 3 and 2 miss it, enlist, miss it again and wait, 3 with the switch set
unfoldable pub to_sleep : List ℕ
to_sleep = 1 ∷ 3 ∷ 3 ∷ 3 ∷ 3 ∷ 2 ∷ 2 ∷ 2 ∷ []

-- 1 unlocks and notifies
unfoldable pub to_wake : List ℕ
to_wake = to_sleep ++ (1 ∷ 1 ∷ [])

-- 3 takes base 1; 2 misses it and waits again; 3 unlocks and notifies; 2 reads, and notifies after its decrease
unfoldable pub to_end : List ℕ
to_end = to_wake ++ (3 ∷ 3 ∷ 2 ∷ 2 ∷ 2 ∷ 2 ∷ 3 ∷ 3 ∷ 2 ∷ 2 ∷ 2 ∷ 2 ∷ [])

-- process p stands on the waiting list in phase 5, and would answer IDLE
pub record Asleep (f turns : List ℕ) (p : ℕ) : Type 0 where
  pub waiting : phase (play (routines f) fresh turns) p ≡ 5
  pub enlisted : entry (play (routines f) fresh turns) p ≡ 1
  pub idle : moves (routines f) (play (routines f) fresh turns) p ≡ false

-- f passes, and these turns over it are a play with contention that ends
pub record Contended (f : List ℕ) : Type 0 where
  pub passes : judging f ≡ Ok tt
  pub turns_by : by_processes (routines f).N to_end ≡ true
  pub modifier_waits : Asleep f to_sleep 3
  pub reader_waits : Asleep f to_sleep 2
  pub switch_on : nomore (play (routines f) fresh to_sleep) 1 ≡ 1
  pub modifier_woken : wake (play (routines f) fresh to_wake) 3 ≡ 1
  pub reader_woken : wake (play (routines f) fresh to_wake) 2 ≡ 1
  -- all turns move, and every routine has finished
  pub moved : moved_in (routines f) fresh to_end ≡ 22
  pub finished : standing_of (routines f) (play (routines f) fresh to_end) ≡ 0
