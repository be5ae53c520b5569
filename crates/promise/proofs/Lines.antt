-- The lines of "One turn" as a data type: which line a turn follows, and what that line leaves.
-- Each test of the rules is looked into here, and nowhere above.
use mathlib.Core.Path.{◌≡◌, refl, sym, ◌∙◌}
use mathlib.Core.Logic.{◌≢◌, ◌⊎◌, inl, inr}
use mathlib.Core.Bool.{true, false, cond}
use Prim.Native.Nat.{ℕ, ◌+◌, ◌-◌, ◌≤◌}
use native.Mathlib.Omega.{arith}
use lib.Dec.{eqb, leb}
use borrow.Author.Tests.{eqb-true, eqb-false, leb-true, leb-false}
use Rattle.std.specs.Prelude.{Option, Some, is_some, unwrap_or}
use Rattle.routine.specs.Test.{and, by_test, and_left, and_right}
use Rattle.routine.specs.Routines.{modlock, readlock, unlock, decrease, free, modifies, reads, fine}
use Rattle.routine.specs.Judging.{is_take}
use Rattle.routine.proofs.Holding.{fine_take, fine_unlock, fine_decrease}
use Rattle.rules.specs.declared.Words.{Words}
use Rattle.rules.specs.Turn.{with_base, with_marks, to_phase, completed, succeeds, taken, take, release, lessen, begin, start, enlist, retry, delist, switch, await, next}

-- 1 for a turn that moves
unfoldable pub did_of : Option Words → ℕ
did_of y = cond (is_some y) 1 0

-- w stands in phase ph; the turn did this, and left these words in v
pub record Leaves (w : Words) (d : ℕ) (v : Words) (ph did l n c k ph' wk en : ℕ) : Type 0 where
  pub at : w.phase ≡ ph
  pub did_is : d ≡ did
  pub lock_is : v.lock ≡ l
  pub nomore_is : v.nomore ≡ n
  pub count_is : v.count ≡ c
  pub call_is : v.call ≡ k
  pub phase_is : v.phase ≡ ph'
  pub wake_is : v.wake ≡ wk
  pub entry_is : v.entry ≡ en

-- a turn of p at a call of this kind, whose base has the mark old: from the words w it makes v, and moves if d is 1
pub data Line (p kind old : ℕ) (w : Words) (d : ℕ) (v : Words) : Type 0 where
  finished : kind ≡ 0 → Leaves w d v 0 0 w.lock w.nomore w.count w.call w.phase w.wake w.entry → Line p kind old w d v
  waiting : w.wake ≢ 1 → Leaves w d v 5 0 w.lock w.nomore w.count w.call w.phase w.wake w.entry → Line p kind old w d v
  stopped : 7 ≤ w.phase → Leaves w d v w.phase 0 w.lock w.nomore w.count w.call w.phase w.wake w.entry → Line p kind old w d v
  errs : kind ≢ 0 → fine kind old ≡ false → Leaves w d v 0 1 w.lock w.nomore w.count w.call 7 w.wake w.entry → Line p kind old w d v
  takes_modlock : kind ≡ modlock → old ≡ free → w.lock ≡ 0 → w.count ≡ 0 → Leaves w d v 0 1 p w.nomore w.count (w.call + 1) 0 w.wake w.entry → Line p kind old w d v
  takes_readlock : kind ≡ readlock → old ≡ free → w.lock ≡ 0 → w.nomore ≡ 0 → Leaves w d v 0 1 w.lock w.nomore (w.count + 1) (w.call + 1) 0 w.wake w.entry → Line p kind old w d v
  misses : modlock ≤ kind → kind ≤ readlock → old ≡ free → Leaves w d v 0 1 w.lock w.nomore w.count w.call 1 w.wake w.entry → Line p kind old w d v
  unlocks : kind ≡ unlock → old ≡ modifies → Leaves w d v 0 1 0 0 w.count w.call 6 w.wake w.entry → Line p kind old w d v
  decreases_last : kind ≡ decrease → old ≡ reads → w.count ≤ 1 → Leaves w d v 0 1 w.lock 0 0 w.call 6 w.wake w.entry → Line p kind old w d v
  decreases : kind ≡ decrease → old ≡ reads → 2 ≤ w.count → Leaves w d v 0 1 w.lock w.nomore (w.count - 1) (w.call + 1) 0 w.wake w.entry → Line p kind old w d v
  enlists : Leaves w d v 1 1 w.lock w.nomore w.count w.call 2 w.wake 1 → Line p kind old w d v
  retakes_modlock : kind ≡ modlock → w.lock ≡ 0 → w.count ≡ 0 → Leaves w d v 2 1 p w.nomore w.count w.call 3 w.wake w.entry → Line p kind old w d v
  retakes_readlock : kind ≢ modlock → w.lock ≡ 0 → w.nomore ≡ 0 → Leaves w d v 2 1 w.lock w.nomore (w.count + 1) w.call 3 w.wake w.entry → Line p kind old w d v
  remisses_modlock : kind ≡ modlock → 1 ≤ w.lock + w.count → Leaves w d v 2 1 w.lock w.nomore w.count w.call 4 w.wake w.entry → Line p kind old w d v
  remisses_readlock : kind ≢ modlock → 1 ≤ w.lock + w.nomore → Leaves w d v 2 1 w.lock w.nomore w.count w.call 5 w.wake w.entry → Line p kind old w d v
  delists : Leaves w d v 3 1 w.lock w.nomore w.count (w.call + 1) 0 0 0 → Line p kind old w d v
  switches : Leaves w d v 4 1 w.lock 1 w.count w.call 5 w.wake w.entry → Line p kind old w d v
  wakes : w.wake ≡ 1 → Leaves w d v 5 1 w.lock w.nomore w.count w.call 0 0 w.entry → Line p kind old w d v
  notifies : Leaves w d v 6 1 w.lock w.nomore w.count (w.call + 1) 0 w.wake w.entry → Line p kind old w d v

-- ---- every turn follows a line

leaves : (w : Words) (d : ℕ) (v : Words) (ph : ℕ) → w.phase ≡ ph → Leaves w d v ph d v.lock v.nomore v.count v.call v.phase v.wake v.entry
leaves w d v ph at = record { at = at; did_is = refl; lock_is = refl; nomore_is = refl; count_is = refl; call_is = refl; phase_is = refl; wake_is = refl; entry_is = refl }

both_zero : (a b : ℕ) → and (eqb a 0) (eqb b 0) ≡ true → (a ≡ 0) × (b ≡ 0)
both_zero a b e = (eqb-true _ _ (and_left _ _ e), eqb-true _ _ (and_right (eqb a 0) _ e))

one_not : (a b : ℕ) → and (eqb a 0) (eqb b 0) ≡ false → 1 ≤ a + b
unfolding and
one_not a b e = by_test (eqb a 0) (λ f. let n = eqb-false b 0 (rw f at e) in omega arith) (λ f. let n = eqb-false a 0 f in omega arith)

module _ (p kind old : ℕ) (w : Words) where
  -- the turn leaves y, or the words as they are, along a line
  abbrev Along : Option Words → Type 0
  Along y = Line p kind old w (did_of y) (unwrap_or y w)

  take_line : w.phase ≡ 0 → modlock ≤ kind → kind ≤ readlock → old ≡ free → Along (Some (take p kind w))
  unfolding did_of take succeeds taken completed with_base to_phase
  take_line at l h f =
      by_test (eqb kind modlock)
      (λ m. by_test (and (eqb w.lock 0) (eqb w.count 0))
      (λ s. let z = both_zero _ _ s in rw (m, s) (takes_modlock (eqb-true _ _ m) f z.0 z.1 (leaves w _ _ _ at)))
      (λ s. rw (m, s) (misses l h f (leaves w _ _ _ at))))
      (λ m. let n = eqb-false kind 1 m in by_test (and (eqb w.lock 0) (eqb w.nomore 0))
      (λ s. let z = both_zero w.lock w.nomore s in rw (m, s) (takes_readlock (omega arith) f z.0 z.1 (leaves w _ _ _ at)))
      (λ s. rw (m, s) (misses l h f (leaves w _ _ _ at))))

  begin_line : w.phase ≡ 0 → modlock ≤ kind → kind ≤ decrease → fine kind old ≡ true → Along (Some (begin p kind w))
  unfolding did_of begin is_take release lessen completed with_base to_phase
  begin_line at l h f =
      by_test (leb kind readlock)
      (λ r. rw r (take_line at l (leb-true _ _ r) (eqb-true _ _ (sym (fine_take kind old (leb-true _ _ r)) ∙ f))))
      (λ r. let m = leb-false kind 2 r in by_test (eqb kind unlock)
      (λ e. rw (r, e) (unlocks (eqb-true _ _ e) (eqb-true _ _ (sym (fine_unlock kind old (eqb-true _ _ e)) ∙ f)) (leaves w _ _ _ at)))
      (λ e. let n = eqb-false kind 3 e in let k : kind ≡ decrease = omega arith in
      let o = eqb-true old reads (sym (fine_decrease kind old k) ∙ f) in by_test (eqb (w.count - 1) 0)
      (λ s. let z = eqb-true (w.count - 1) 0 s in rw (r, e, s) (decreases_last k o (omega arith) (leaves w _ _ _ at)))
      (λ s. let z = eqb-false (w.count - 1) 0 s in rw (r, e, s) (decreases k o (omega arith) (leaves w _ _ _ at)))))

  start_line : kind ≤ decrease → w.phase ≡ 0 → Along (start p kind old w)
  unfolding did_of start to_phase
  start_line h at =
      by_test (eqb kind 0) (λ k. rw k (finished (eqb-true _ _ k) (leaves w _ _ _ at)))
      (λ k. let n = eqb-false kind 0 k in by_test (fine kind old)
      (λ f. rw (k, f) (begin_line at (omega arith) h f))
      (λ f. rw (k, f) (errs n f (leaves w _ _ _ at))))

  retry_line : w.phase ≡ 2 → Along (Some (retry p kind w))
  unfolding did_of retry succeeds taken with_base to_phase
  retry_line at =
      by_test (eqb kind modlock)
      (λ m. by_test (and (eqb w.lock 0) (eqb w.count 0))
      (λ s. let z = both_zero _ _ s in rw (m, s) (retakes_modlock (eqb-true _ _ m) z.0 z.1 (leaves w _ _ _ at)))
      (λ s. rw (m, s) (remisses_modlock (eqb-true _ _ m) (one_not _ _ s) (leaves w _ _ _ at))))
      (λ m. by_test (and (eqb w.lock 0) (eqb w.nomore 0))
      (λ s. let z = both_zero _ _ s in rw (m, s) (retakes_readlock (eqb-false _ _ m) z.0 z.1 (leaves w _ _ _ at)))
      (λ s. rw (m, s) (remisses_readlock (eqb-false _ _ m) (one_not _ _ s) (leaves w _ _ _ at))))

  await_line : w.phase ≡ 5 → Along (await w)
  unfolding did_of await with_marks to_phase
  await_line at = by_test (eqb w.wake 1) (λ k. rw k (wakes (eqb-true _ _ k) (leaves w _ _ _ at))) (λ k. rw k (waiting (eqb-false _ _ k) (leaves w _ _ _ at)))

  -- every turn follows a line, where the kind is one of the four or 0
  pub line : kind ≤ decrease → Along (next p kind old w)
  unfolding did_of next enlist delist switch completed with_base with_marks to_phase
  line h =
      by_test (eqb w.phase 0) (λ e. rw e (start_line h (eqb-true _ _ e)))
      (λ n0. by_test (eqb w.phase 1) (λ e. rw (n0, e) (enlists (leaves w _ _ _ (eqb-true _ _ e))))
      (λ n1. by_test (eqb w.phase 2) (λ e. rw (n0, n1, e) (retry_line (eqb-true _ _ e)))
      (λ n2. by_test (eqb w.phase 3) (λ e. rw (n0, n1, n2, e) (delists (leaves w _ _ _ (eqb-true _ _ e))))
      (λ n3. by_test (eqb w.phase 4) (λ e. rw (n0, n1, n2, n3, e) (switches (leaves w _ _ _ (eqb-true _ _ e))))
      (λ n4. by_test (eqb w.phase 5) (λ e. rw (n0, n1, n2, n3, n4, e) (await_line (eqb-true _ _ e)))
      (λ n5. by_test (eqb w.phase 6) (λ e. rw (n0, n1, n2, n3, n4, n5, e) (notifies (leaves w _ _ _ (eqb-true _ _ e))))
      (λ n6. let far : 4 ≤ w.phase = omega (arith, eqb-false w.phase 0 n0, eqb-false w.phase 1 n1, eqb-false w.phase 2 n2, eqb-false w.phase 3 n3) in
      let past : 7 ≤ w.phase = omega (arith, eqb-false w.phase 4 n4, eqb-false w.phase 5 n5, eqb-false w.phase 6 n6) in
      rw (n0, n1, n2, n3, n4, n5, n6) (stopped past (leaves w _ _ _ refl)))))))))

-- ---- a line moves, or it is one of the three that say idle

-- why a line rests
pub data Rest (kind : ℕ) (w : Words) : Type 0 where
  rest_finished : w.phase ≡ 0 → kind ≡ 0 → Rest kind w
  rest_waiting : w.phase ≡ 5 → w.wake ≢ 1 → Rest kind w
  rest_stopped : 7 ≤ w.phase → Rest kind w

-- a line that rests leaves the words as they are
pub record Still (kind : ℕ) (w : Words) (d : ℕ) (v : Words) : Type 0 where
  pub why : Rest kind w
  pub did_is : d ≡ 0
  pub same : v ≡ w

-- where a line moves from
pub data Moves (kind : ℕ) (w : Words) (d : ℕ) : Type 0 where
  from_start : w.phase ≡ 0 → kind ≢ 0 → d ≡ 1 → Moves kind w d
  from_within : 1 ≤ w.phase → w.phase ≤ 6 → (w.phase ≡ 5 → w.wake ≡ 1) → d ≡ 1 → Moves kind w d

still : {kind : ℕ} {w : Words} {d : ℕ} {v : Words} {ph : ℕ} → Rest kind w → Leaves w d v ph 0 w.lock w.nomore w.count w.call w.phase w.wake w.entry → Still kind w d v
still y r = record {
  why = y;
  did_is = r.did_is;
  same = λ i. record { lock = r.lock_is i; nomore = r.nomore_is i; count = r.count_is i; call = r.call_is i; phase = r.phase_is i; wake = r.wake_is i; entry = r.entry_is i };
}

begins : {kind : ℕ} {w : Words} {d : ℕ} {v : Words} {l n c k ph wk en : ℕ} → Leaves w d v 0 1 l n c k ph wk en → kind ≢ 0 → Moves kind w d
begins r k = from_start r.at k r.did_is

inside : {kind : ℕ} {w : Words} {d : ℕ} {v : Words} {at l n c k ph wk en : ℕ} → Leaves w d v at 1 l n c k ph wk en → 1 ≤ at → at ≤ 6 → at ≢ 5 → Moves kind w d
inside r lo hi ne = from_within (omega arith) (omega arith) (λ f. absurd (ne (sym r.at ∙ f))) r.did_is

pub moves_or_rests : {p kind old : ℕ} {w : Words} {d : ℕ} {v : Words} → Line p kind old w d v → Moves kind w d ⊎ Still kind w d v
moves_or_rests (finished a r) = inr (still (rest_finished r.at a) r)
moves_or_rests (waiting a r) = inr (still (rest_waiting r.at a) r)
moves_or_rests (stopped a r) = inr (still (rest_stopped a) r)
moves_or_rests (errs a b r) = inl (begins r a)
moves_or_rests (takes_modlock a b c e r) = inl (begins r (omega arith))
moves_or_rests (takes_readlock a b c e r) = inl (begins r (omega arith))
moves_or_rests (misses a b c r) = inl (begins r (omega arith))
moves_or_rests (unlocks a b r) = inl (begins r (omega arith))
moves_or_rests (decreases_last a b c r) = inl (begins r (omega arith))
moves_or_rests (decreases a b c r) = inl (begins r (omega arith))
moves_or_rests (enlists r) = inl (inside r (omega arith) (omega arith) (omega arith))
moves_or_rests (retakes_modlock a b c r) = inl (inside r (omega arith) (omega arith) (omega arith))
moves_or_rests (retakes_readlock a b c r) = inl (inside r (omega arith) (omega arith) (omega arith))
moves_or_rests (remisses_modlock a b r) = inl (inside r (omega arith) (omega arith) (omega arith))
moves_or_rests (remisses_readlock a b r) = inl (inside r (omega arith) (omega arith) (omega arith))
moves_or_rests (delists r) = inl (inside r (omega arith) (omega arith) (omega arith))
moves_or_rests (switches r) = inl (inside r (omega arith) (omega arith) (omega arith))
moves_or_rests (wakes a r) = inl (from_within (omega arith) (omega arith) (λ f. a) r.did_is)
moves_or_rests (notifies r) = inl (inside r (omega arith) (omega arith) (omega arith))

pub line_moves : {p kind old : ℕ} {w : Words} {d : ℕ} {v : Words} → Line p kind old w d v → d ≡ 1 → Moves kind w d
line_moves l e = go (moves_or_rests l) e
  where
    go : {kind : ℕ} {w : Words} {d : ℕ} {v : Words} → Moves kind w d ⊎ Still kind w d v → d ≡ 1 → Moves kind w d
    go (inl m) e = m
    go (inr s) e = absurd (omega arith)

pub line_rests : {p kind old : ℕ} {w : Words} {d : ℕ} {v : Words} → Line p kind old w d v → d ≢ 1 → Still kind w d v
line_rests l n = go (moves_or_rests l) n
  where
    go : {kind : ℕ} {w : Words} {d : ℕ} {v : Words} → Moves kind w d ⊎ Still kind w d v → d ≢ 1 → Still kind w d v
    go (inl (from_start a b c)) n = absurd (n c)
    go (inl (from_within a b c e)) n = absurd (n e)
    go (inr s) n = s

-- a line that moves changes CALL or PHASE
pub line_changes : {p kind old : ℕ} {w : Words} {d : ℕ} {v : Words} → Line p kind old w d v → d ≡ 1 → v.call ≡ w.call → v.phase ≢ w.phase
line_changes (finished a r) e k = omega arith
line_changes (waiting a r) e k = omega arith
line_changes (stopped a r) e k = omega arith
line_changes (errs a b r) e k = omega arith
line_changes (takes_modlock a b c f r) e k = omega arith
line_changes (takes_readlock a b c f r) e k = omega arith
line_changes (misses a b c r) e k = omega arith
line_changes (unlocks a b r) e k = omega arith
line_changes (decreases_last a b c r) e k = omega arith
line_changes (decreases a b c r) e k = omega arith
line_changes (enlists r) e k = omega arith
line_changes (retakes_modlock a b c r) e k = omega arith
line_changes (retakes_readlock a b c r) e k = omega arith
line_changes (remisses_modlock a b r) e k = omega arith
line_changes (remisses_readlock a b r) e k = omega arith
line_changes (delists r) e k = omega arith
line_changes (switches r) e k = omega arith
line_changes (wakes a r) e k = omega arith
line_changes (notifies r) e k = omega arith
