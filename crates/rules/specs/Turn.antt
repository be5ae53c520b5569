-- One turn: a definition for each line of "One turn", in its order.
use Rattle.std.specs.Prelude.{Bool, cond, List, ℕ, zero, suc, ◌+◌, ◌-◌, eqb, Option, Some, None, is_some}
use Rattle.routine.specs.Test.{and}
use Rattle.routine.specs.Routines.{Routines, kind_now, base_now, modlock, unlock, fine}
use Rattle.routine.specs.Judging.{is_take}
use Rattle.rules.specs.declared.Words.{Words}
use Rattle.rules.specs.Table.{call, phase, entry, words_at, put_marks, put_words}
use Rattle.rules.specs.Consistent.{mark_now}

-- ---- the words that a turn looks at, with some of them changed; a turn that is idle leaves none

unfoldable pub with_base : ℕ → ℕ → ℕ → Words → Words
with_base l n c w = record { lock = l; nomore = n; count = c; call = w.call; phase = w.phase; wake = w.wake; entry = w.entry }

unfoldable pub with_marks : ℕ → ℕ → Words → Words
with_marks wk en w = record { lock = w.lock; nomore = w.nomore; count = w.count; call = w.call; phase = w.phase; wake = wk; entry = en }

unfoldable pub to_phase : ℕ → Words → Words
to_phase ph w = record { lock = w.lock; nomore = w.nomore; count = w.count; call = w.call; phase = ph; wake = w.wake; entry = w.entry }

-- the call is complete: CALL + 1, phase 0
unfoldable pub completed : Words → Words
completed w = record { lock = w.lock; nomore = w.nomore; count = w.count; call = w.call + 1; phase = 0; wake = w.wake; entry = w.entry }

-- ---- a try by process p: "modlock succeeds if LOCK and COUNT are 0, and LOCK becomes p; readlock succeeds if LOCK and NOMORE are 0, and COUNT rises by 1"

unfoldable pub succeeds : ℕ → Words → Bool
succeeds kind w = cond (eqb kind modlock) (and (eqb w.lock 0) (eqb w.count 0)) (and (eqb w.lock 0) (eqb w.nomore 0))

unfoldable pub taken : ℕ → ℕ → Words → Words
taken p kind w = cond (eqb kind modlock) (with_base p w.nomore w.count w) (with_base w.lock w.nomore (w.count + 1) w)

-- ---- the lines

-- "Phase 0, modlock or readlock: a try; success completes the call (CALL + 1, phase 0), failure gives phase 1"
unfoldable pub take : ℕ → ℕ → Words → Words
take p kind w = cond (succeeds kind w) (completed (taken p kind w)) (to_phase 1 w)

-- "Phase 0, unlock: LOCK and NOMORE become 0, phase 6"
unfoldable pub release : Words → Words
release w = to_phase 6 (with_base 0 0 w.count w)

-- "Phase 0, decrease: COUNT falls by 1. If it is now 0, NOMORE becomes 0 and the phase 6; otherwise the call is complete"
unfoldable pub lessen : Words → Words
lessen w = cond (eqb (w.count - 1) 0) (to_phase 6 (with_base w.lock 0 0 w)) (completed (with_base w.lock w.nomore (w.count - 1) w))

unfoldable pub begin : ℕ → ℕ → Words → Words
begin p kind w = cond (is_take kind) (take p kind w) (cond (eqb kind unlock) (release w) (lessen w))

-- "Phase 0, finished: idle. Phase 0, logic error: phase 7"
unfoldable pub start : ℕ → ℕ → ℕ → Words → Option Words
start p kind old w = cond (eqb kind 0) None (Some (cond (fine kind old) (begin p kind w) (to_phase 7 w)))

-- "Phase 1: ENTRY becomes 1, phase 2"
unfoldable pub enlist : Words → Words
enlist w = to_phase 2 (with_marks w.wake 1 w)

-- "Phase 2: a try; success gives phase 3; failure gives 4 for modlock, 5 for readlock"
unfoldable pub retry : ℕ → ℕ → Words → Words
retry p kind w = cond (succeeds kind w) (to_phase 3 (taken p kind w)) (to_phase (cond (eqb kind modlock) 4 5) w)

-- "Phase 3: ENTRY and WAKE become 0, the call is complete"
unfoldable pub delist : Words → Words
delist w = completed (with_marks 0 0 w)

-- "Phase 4: NOMORE becomes 1, phase 5"
unfoldable pub switch : Words → Words
switch w = to_phase 5 (with_base w.lock 1 w.count w)

-- "Phase 5: with WAKE 1, WAKE becomes 0 and the phase 0; otherwise idle"
unfoldable pub await : Words → Option Words
await w = cond (eqb w.wake 1) (Some (to_phase 0 (with_marks 0 w.entry w))) None

-- what a turn of process p leaves, where its current call is of this kind and its completed calls leave the mark old on that call's base
unfoldable pub next : ℕ → ℕ → ℕ → Words → Option Words
next p kind old w =
    cond (eqb w.phase 0) (start p kind old w)
    (cond (eqb w.phase 1) (Some (enlist w))
    (cond (eqb w.phase 2) (Some (retry p kind w))
    (cond (eqb w.phase 3) (Some (delist w))
    (cond (eqb w.phase 4) (Some (switch w))
    (cond (eqb w.phase 5) (await w)
    -- "Phase 6: .. the call is complete"
    (cond (eqb w.phase 6) (Some (completed w))
    -- "Phase 7: idle"
    None))))))

-- ---- the whole table

-- process q stands on the waiting list for base b: "ENTRY 1 means that p stands on the waiting list for the base of its current call"
unfoldable pub waits : Routines → List ℕ → ℕ → ℕ → Bool
waits S t b q = and (eqb (entry t q) 1) (eqb (base_now S q (call t q)) b)

-- "Phase 6: every process with ENTRY 1 whose current call names the same base gets ENTRY 0 and WAKE 1": processes 1 to n
unfoldable pub notified : Routines → ℕ → List ℕ → ℕ → List ℕ
notified S b t zero = t
notified S b t (suc q) = cond (waits S (notified S b t q) b (suc q)) (put_marks (notified S b t q) (suc q) 1 0) (notified S b t q)

-- what a turn of p leaves of the words that it looks at
unfoldable pub next_at : Routines → List ℕ → ℕ → Option Words
next_at S t p = next p (kind_now S p (call t p)) (mark_now S p (call t p)) (words_at t (base_now S p (call t p)) p)

-- the words put back, where phase 6 notifies first
unfoldable pub settle : Routines → List ℕ → ℕ → Option Words → List ℕ
settle S t p (Some w) = put_words (cond (eqb (phase t p) 6) (notified S (base_now S p (call t p)) t S.N) t) (base_now S p (call t p)) p w
settle S t p None = t

-- the table after a turn of p
unfoldable pub turned : Routines → List ℕ → ℕ → List ℕ
turned S t p = settle S t p (next_at S t p)

-- whether a turn of p moves
unfoldable pub moves : Routines → List ℕ → ℕ → Bool
moves S t p = is_some (next_at S t p)
