-- Why nobody sleeps on: the three statements about who waits for a base, each linear in the base's words.
use Rattle.std.specs.Prelude.{◌≡◌, cond, List, ℕ, ◌+◌, ◌≤◌, eqb}
use Rattle.routine.specs.Test.{and}
use Rattle.routine.specs.Sum.{sum}
use Rattle.routine.specs.Routines.{Routines, modlock, readlock, kind_now, base_now}
use Rattle.rules.specs.Table.{lock, nomore, count, call, phase, entry}

-- 1 where process q stands in phase 6 at base b
unfoldable pub notifier : Routines → List ℕ → ℕ → ℕ → ℕ
notifier S t b q = cond (and (eqb (phase t q) 6) (eqb (base_now S q (call t q)) b)) 1 0

unfoldable pub notifiers : Routines → List ℕ → ℕ → ℕ
notifiers S t b = sum S.N (notifier S t b)

-- 1 where the current call of process q is a modlock of base b
unfoldable pub wanter : Routines → List ℕ → ℕ → ℕ → ℕ
wanter S t b q = cond (and (eqb (kind_now S q (call t q)) modlock) (eqb (base_now S q (call t q)) b)) 1 0

unfoldable pub wanters : Routines → List ℕ → ℕ → ℕ
wanters S t b = sum S.N (wanter S t b)

pub record Waiting (S : Routines) (t : List ℕ) : Type 0 where
  -- who is enlisted for a modlock of b and will wait: b is locked or read, or its waiters are about to be notified
  pub for_modlock : (b q : ℕ) → 1 ≤ q → q ≤ S.N → base_now S q (call t q) ≡ b → kind_now S q (call t q) ≡ modlock → entry t q ≡ 1 → 4 ≤ phase t q → phase t q ≤ 5 → 1 ≤ lock t b + count t b + notifiers S t b
  -- who is enlisted for a readlock of b and waits: b is locked, or its switch is on, or its waiters are about to be notified
  pub for_readlock : (b q : ℕ) → 1 ≤ q → q ≤ S.N → base_now S q (call t q) ≡ b → kind_now S q (call t q) ≡ readlock → entry t q ≡ 1 → phase t q ≡ 5 → 1 ≤ lock t b + nomore t b + notifiers S t b
  -- the switch of b is on only while b is locked, read or wanted
  pub for_switch : (b : ℕ) → 1 ≤ b → b ≤ S.B → nomore t b ≤ lock t b + count t b + wanters S t b
